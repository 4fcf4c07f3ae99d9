use Rattle.std.proofs.Common.{sym, ap, ◌∙◌, subst, List, ℕ}
use Rattle.std.specs.Option.{option_map}
use Rattle.block_records.proofs.Standing.{IsOrdered}
use Rattle.block_recovery.specs.Plans.{newest}
use Rattle.block_recovery.specs.declared.plan.Plan.{Plan}
use Rattle.block_recovery.proofs.Stamped.{last_greatest}
use Rattle.block_recovery.proofs.block_plans.BlockPlans.newest.Goals as goal

pub returns-in-Some : goal.returns-in-Some
returns-in-Some c =
    let plans = c.deref.result.now in
    ap (option_map (λ (own : ℕ × Plan). own.0)) c.in-Some.ensures.value
    ∙ (sym (last_greatest plans (subst (λ (plans : List (ℕ × Plan)). IsOrdered plans) (sym c.deref.ensures.value) c.self.invariant)) ∙ ap newest (c.deref.ensures.value ∙ c.self.view_is))
