-- What is left of a DataNode's plans once those of a block were lent.
use Rattle.std.specs.Prelude.{ℕ, List, Option}
use Rattle.std.specs.Borrow.{LendsIf, MutBor, Fml}
use Rattle.std.specs.Map.{set_value}
use Rattle.block_records.specs.Numbers.{is_number}
use Rattle.block_recovery.specs.Plans.{PlanTable}
use Rattle.block_recovery.specs.contracts.block_plans.BlockPlans as own
use Rattle.block_recovery.specs.contracts.plans.Plans as all
use Rattle.block_recovery.specs.declared.plan.Plan.{Plan}

-- the block has the plans that were left behind the reference, and all others have theirs
abbrev pub LendsPlans : ℕ → MutBor PlanTable → Option (MutBor (List (ℕ × Plan))) → Fml
LendsPlans block plans lent = LendsIf all.the_row own.the_row plans lent (set_value (is_number block) plans.now) plans.now
