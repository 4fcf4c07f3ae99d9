use Rattle.std.proofs.Common.{◌≡◌, drop}
use Rattle.namespace_rows.specs.Rows.{file_above}
use Rattle.namespace_rows.proofs.rows.file_above.Given as goal

abbrev pub invariant-loop-row : goal.invariant-loop-row
invariant-loop-row l = file_above l.path (drop l.row-index l.rows) ≡ file_above l.path l.rows
