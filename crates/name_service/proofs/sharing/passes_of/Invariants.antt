use Rattle.std.proofs.Common.{◌≡◌, ◌++◌, length}
use Rattle.std.specs.Vec.Iter.{into_iter_items, into_iter_len}
use Rattle.name_service.specs.Jobs.{passes_of}
use Rattle.name_service.proofs.sharing.passes_of.Given as goal

abbrev pub invariant-loop-worker : goal.invariant-loop-worker
invariant-loop-worker l = (l.yielded ++ into_iter_items l.worker-iterator ≡ into_iter_items l.initial.worker-iterator)
    × (l.passes.items ≡ passes_of l.yielded)
    × (into_iter_len l.worker-iterator ≡ length (into_iter_items l.worker-iterator))
