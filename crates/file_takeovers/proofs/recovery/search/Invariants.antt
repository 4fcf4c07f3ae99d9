use Rattle.std.proofs.Common.{◌≡◌, false, take}
use Rattle.std.specs.List.{list_any}
use Rattle.namespace_rows.specs.Changes.{is_recovered}
use Rattle.file_takeovers.proofs.recovery.search.Given as goal

abbrev pub invariant-loop-row : goal.invariant-loop-row
invariant-loop-row l = list_any (λ row. is_recovered l.block row.file) (take l.row-index l.row-items) ≡ false
