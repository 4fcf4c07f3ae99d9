use Rattle.std.proofs.Common.{◌≡◌, ◌++◌, map, take}
use Rattle.flat_rows.specs.Decision.{ask_at}
use Rattle.flat_rows.proofs.ask.add_asks_at.Given as goal

abbrev pub invariant-loop-row : goal.invariant-loop-row
invariant-loop-row l = l.asks.items ≡ l.initial.asks.items ++ map (ask_at l.rows l.need) (map (λ row. row.now) (take l.row-index l.found))
