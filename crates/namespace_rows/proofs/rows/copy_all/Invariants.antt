use Rattle.std.proofs.Common.{◌≡◌, ◌++◌, take}
use Rattle.namespace_rows.proofs.rows.copy_all.Given as goal

abbrev pub invariant-loop-row : goal.invariant-loop-row
invariant-loop-row l = l.copies.items ≡ l.initial.copies.items ++ take l.row-index l.rows
