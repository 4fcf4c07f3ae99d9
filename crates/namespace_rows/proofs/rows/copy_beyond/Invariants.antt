use Rattle.std.proofs.Common.{◌≡◌, ◌++◌, drop}
use Rattle.std.specs.Prelude.{filter}
use Rattle.namespace_rows.specs.Rows.{is_beyond}
use Rattle.namespace_rows.proofs.rows.copy_beyond.Given as goal

abbrev pub invariant-loop-row : goal.invariant-loop-row
invariant-loop-row l = l.copies.items ++ filter (is_beyond l.path) (drop l.row-index l.rows) ≡ l.initial.copies.items ++ filter (is_beyond l.path) l.rows
