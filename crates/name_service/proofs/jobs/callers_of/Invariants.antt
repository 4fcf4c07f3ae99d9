use Rattle.std.proofs.Common.{◌≡◌, take}
use Rattle.name_service.specs.Jobs as spec
use Rattle.name_service.proofs.jobs.callers_of.Given as goal

abbrev pub invariant-loop-job : goal.invariant-loop-job
invariant-loop-job l = l.callers.keys ≡ spec.callers_of (take l.job-index l.jobs)
