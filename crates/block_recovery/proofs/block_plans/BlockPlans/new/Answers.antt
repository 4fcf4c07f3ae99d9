use Rattle.std.proofs.Common.{sym, subst, List, ℕ}
use Rattle.block_records.proofs.Standing.{IsOrdered, none_ordered}
use Rattle.block_recovery.specs.declared.plan.Plan.{Plan}
use Rattle.block_recovery.proofs.block_plans.BlockPlans.new.Goals as goal

pub invariant_of-result : goal.invariant_of-result
invariant_of-result c = subst (λ (plans : List (ℕ × Plan)). IsOrdered plans) (sym c.new.ensures.items) (none_ordered Plan)
