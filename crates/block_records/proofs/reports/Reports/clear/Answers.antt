use Rattle.std.proofs.Common.{sym, subst, List, ℕ}
use Rattle.block_records.proofs.Standing.{IsOrdered, none_ordered}
use Rattle.block_records.proofs.reports.Reports.clear.Goals as goal

pub invariant_of-self : goal.invariant_of-self
invariant_of-self c = subst (λ (reports : List (ℕ × ℕ)). IsOrdered reports) (sym c.clear.ensures.items) (none_ordered ℕ)

pub invariant_of-self-2 : goal.invariant_of-self-2
invariant_of-self-2 c = none_ordered ℕ
