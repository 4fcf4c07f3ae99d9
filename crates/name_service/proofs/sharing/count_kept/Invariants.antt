use Rattle.std.proofs.Common.{◌≡◌, take}
use Rattle.name_service.specs.Jobs.{kept_by}
use Rattle.name_service.proofs.sharing.count_kept.Given as goal

abbrev pub invariant-loop-worker : goal.invariant-loop-worker
invariant-loop-worker l = l.kept.items ≡ kept_by (take l.worker-index l.workers)
