use Rattle.std.proofs.Common.{take}
use Rattle.std.specs.List.{AllByRecursion}
use Rattle.grant_ledger.specs.declared.ledger.LedgerRow.{LedgerRow}
use Rattle.cluster_trace.specs.Typed.{GrantFits}
use Rattle.cluster_parts.proofs.ranges.read_rows.Given as goal

abbrev pub invariant-loop-row : goal.invariant-loop-row
invariant-loop-row l = AllByRecursion (λ (row : LedgerRow). GrantFits row.grant) (take l.row-index l.new)
