use Rattle.std.proofs.Common.{◌≡◌, ◌++◌, length}
use Rattle.std.specs.Vec.Iter.{into_iter_items, into_iter_len}
use Rattle.data_service.specs.Logged.{receipts_of}
use Rattle.data_service.proofs.check.gather.Given as goal

abbrev pub invariant-loop-seat : goal.invariant-loop-seat
invariant-loop-seat l = (l.yielded ++ into_iter_items l.seat-iterator ≡ into_iter_items l.initial.seat-iterator)
    × (l.receipts.items ≡ receipts_of l.yielded)
    × (into_iter_len l.seat-iterator ≡ length (into_iter_items l.seat-iterator))
