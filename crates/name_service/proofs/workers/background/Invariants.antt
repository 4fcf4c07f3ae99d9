use Rattle.std.proofs.Common.{take}
use Rattle.name_service.specs.Working.{GainsAll}
use Rattle.name_service.proofs.workers.background.Given as goal

abbrev pub invariant-loop-request : goal.invariant-loop-request
invariant-loop-request g l = GainsAll l.fn.pass (take l.request-index l.requests) l.pass
