use Rattle.std.proofs.Common.{◌≡◌, ◌++◌, length}
use Rattle.std.specs.Vec.Iter.{into_iter_items, into_iter_len}
use Rattle.name_service.specs.Serving.{receipts_of}
use Rattle.name_service.proofs.server.receipts_of.Given as goal

abbrev pub invariant-loop-pass : goal.invariant-loop-pass
invariant-loop-pass l = (l.yielded ++ into_iter_items l.pass-iterator ≡ into_iter_items l.initial.pass-iterator)
    × (l.kept.items ≡ receipts_of l.yielded)
    × (into_iter_len l.pass-iterator ≡ length (into_iter_items l.pass-iterator))
