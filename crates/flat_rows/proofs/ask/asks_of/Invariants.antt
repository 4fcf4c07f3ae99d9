use Rattle.std.proofs.Common.{◌≡◌, ◌++◌, drop}
use Rattle.std.specs.List.{flat_map}
use Rattle.flat_rows.specs.Decision as spec
use Rattle.flat_rows.proofs.ask.asks_of.Given as goal

abbrev pub invariant-loop-demand : goal.invariant-loop-demand
invariant-loop-demand l = l.asks.items ++ flat_map (spec.asks_of l.rows) (drop l.demand-index l.demands) ≡ flat_map (spec.asks_of l.rows) l.demands
