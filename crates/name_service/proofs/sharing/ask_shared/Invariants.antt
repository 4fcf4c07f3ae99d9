use Rattle.std.proofs.Common.{map, take}
use Rattle.name_service.specs.declared.jobs.KeptAt.{KeptAt}
use Rattle.name_service.specs.Shares.{shared}
use Rattle.name_service.specs.Working.{GainsAll}
use Rattle.name_service.proofs.sharing.ask_shared.Given as goal

abbrev pub invariant-loop-i : goal.invariant-loop-i
invariant-loop-i g l = GainsAll l.fn.pass (shared l.number (take l.i (map (λ (place : KeptAt). place.worker) l.places)) (take l.i l.jobs)) l.pass
