use Rattle.std.proofs.Common.{◌≡◌, ◌++◌, drop}
use Rattle.std.specs.Prelude.{filter}
use Rattle.namespace_rows.specs.Rows.{is_before}
use Rattle.namespace_rows.proofs.rows.copies_before.Given as goal

abbrev pub invariant-loop-row : goal.invariant-loop-row
invariant-loop-row l = l.copies.items ++ filter (is_before l.path) (drop l.row-index l.rows) ≡ filter (is_before l.path) l.rows
