-- What holds of each plan of a DataNode, and what calls leave of it.
use Rattle.std.proofs.Common.{◌≡◌, ℕ, List, [], refl, Option, Some, None}
use Rattle.std.specs.Prelude.{unwrap_or}
use Rattle.std.specs.BTreeMap.{insert_entry}
use Rattle.std.specs.Ordering.{nat_cmp}
use Rattle.block_records.specs.Numbers.{entry_at}
use Rattle.block_recovery.specs.Plans.{PlanTable, plans_of, plan_at, with_plan, altered_by, with_entry_changed, with_plan_changed}
use Rattle.block_recovery.specs.declared.plan.Plan.{Plan}
use Rattle.cluster_trace.proofs.Each.{AllValues, values_at, values_set, values_inserted}

module _ {X : Type 0} (P : X → Type 0) (change : X → X) (keeps : (own : X) → P own → P (change own)) where
  altered_have : (number : ℕ) (table : List (ℕ × X)) → AllValues P table → AllValues P (with_entry_changed change number table)
  altered_have number table all = by (entry_at number table) (λ own e. values_at P table number own all e)
    where
      by : (found : Option X) → ((own : X) → found ≡ Some own → P own) → AllValues P (altered_by change number found table)
      by None has = all
      by (Some own) has = values_set P table number (change own) all (keeps own (has own refl))

module _ (P : Plan → Type 0) where
  abbrev pub EachPlan : PlanTable → Type 0
  EachPlan plans = AllValues (λ (own : List (ℕ × Plan)). AllValues P own) plans

  of_block : (block : ℕ) (plans : PlanTable) → EachPlan plans → AllValues P (plans_of block plans)
  of_block block plans all = by (entry_at block plans) (λ own e. values_at (λ (own : List (ℕ × Plan)). AllValues P own) plans block own all e)
    where
      by : (found : Option (List (ℕ × Plan))) → ((own : List (ℕ × Plan)) → found ≡ Some own → AllValues P own) → AllValues P (unwrap_or found [])
      by None has = tt
      by (Some own) has = has own refl

  -- a plan that is found
  pub plan_has : (block stamp : ℕ) (plans : PlanTable) (own : Plan) → EachPlan plans → plan_at block stamp plans ≡ Some own → P own
  plan_has block stamp plans own all e = values_at P (plans_of block plans) stamp own (of_block block plans all) e

  -- one more
  pub with_plan_has : (block stamp : ℕ) (own : Plan) (plans : PlanTable) → EachPlan plans → P own → EachPlan (with_plan block stamp own plans)
  with_plan_has block stamp own plans all new =
      values_inserted (λ (own : List (ℕ × Plan)). AllValues P own) plans block (insert_entry nat_cmp (plans_of block plans) stamp own) all
      (values_inserted P (plans_of block plans) stamp own (of_block block plans all) new)

  -- one that is changed
  pub changed_has : (change : Plan → Plan) (block stamp : ℕ) (plans : PlanTable) → EachPlan plans → ((own : Plan) → P own → P (change own)) → EachPlan (with_plan_changed change block stamp plans)
  changed_has change block stamp plans all keeps =
      altered_have (λ (own : List (ℕ × Plan)). AllValues P own) (with_entry_changed change stamp) (λ table each. altered_have P change keeps stamp table each) block plans all
