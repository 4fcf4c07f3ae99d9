use Rattle.std.proofs.Common.{◌≡◌, drop}
use Rattle.namespace_rows.specs.Rows.{row_at}
use Rattle.namespace_rows.proofs.rows.row_at.Given as goal

abbrev pub invariant-loop-row : goal.invariant-loop-row
invariant-loop-row l = row_at l.path (drop l.row-index l.rows) ≡ row_at l.path l.rows
