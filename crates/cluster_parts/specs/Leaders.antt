-- What a call leaves of the recoveries that the DataNodes of a cluster lead, and what it is answered.
use Rattle.std.specs.Prelude.{ℕ, List, Option, Some, None, option_map}
use Rattle.std.specs.Map.{set_value}
use Rattle.block_records.specs.Numbers.{is_number, entry_at}
use Rattle.node_calls.specs.declared.call.PlanCall.{PlanCall}
use Rattle.block_recovery.specs.Plans.{PlanTable}
use Rattle.plan_steps.specs.PlanStep.{plans_after, plan_answer}
use Rattle.plan_steps.specs.declared.answered.PlanAnswered.{PlanAnswered}

abbrev pub left_by_plan : ℕ → PlanCall → List (ℕ × PlanTable) → Option PlanTable → List (ℕ × PlanTable)
left_by_plan id asked plans None = plans
left_by_plan id asked plans (Some own) = set_value (is_number id) plans (plans_after asked own)

abbrev pub plans_led : ℕ → PlanCall → List (ℕ × PlanTable) → List (ℕ × PlanTable)
plans_led id asked plans = left_by_plan id asked plans (entry_at id plans)

-- nothing where there is no such node
abbrev pub answer_led : ℕ → PlanCall → List (ℕ × PlanTable) → Option PlanAnswered
answer_led id asked plans = option_map (λ (own : PlanTable). plan_answer id asked own) (entry_at id plans)
