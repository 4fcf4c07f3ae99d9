use Rattle.std.proofs.Common.{◌≡◌, ◌++◌, map, drop}
use Rattle.namespace_rows.specs.Rows.{directories_above}
use Rattle.flat_rows.proofs.ask.directories_above.Given as goal

abbrev pub invariant-loop-row : goal.invariant-loop-row
invariant-loop-row l = map (λ row. row.now) l.found.items ++ directories_above l.path (drop l.row-index l.rows) ≡ directories_above l.path l.rows
