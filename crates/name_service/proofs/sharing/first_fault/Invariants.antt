use Rattle.std.proofs.Common.{take}
use Rattle.name_service.specs.Jobs.{NoneFaulted}
use Rattle.name_service.proofs.sharing.first_fault.Given as goal

abbrev pub invariant-loop-worker : goal.invariant-loop-worker
invariant-loop-worker l = NoneFaulted (take l.worker-index l.workers)
