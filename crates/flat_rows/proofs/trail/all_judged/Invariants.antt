use Rattle.std.proofs.Common.{◌≡◌, take}
use Rattle.std.specs.List.{flat_map}
use Rattle.flat_rows.specs.Decision.{demand_judged}
use Rattle.flat_rows.proofs.trail.all_judged.Given as goal

abbrev pub invariant-loop-demand : goal.invariant-loop-demand
invariant-loop-demand l = l.judged.items ≡ flat_map (demand_judged l.checking l.rows l.caller) (take l.demand-index l.demands)
