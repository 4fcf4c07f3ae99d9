use Rattle.std.proofs.Common.{Some, sym, ap, ◌∙◌}
use Rattle.node_calls.specs.declared.call.PlanCall.TheVariants.{Decide}
use Rattle.block_recovery.specs.Plans.{plan_at, refused_decide}
use Rattle.plan_steps.proofs.Steps.{refused_with, refused_is, allowed_after, refused_after, refused_answer, decided_answer}
use Rattle.plan_steps.proofs.lead.decide.Goals as goal

pub returns-clause-ok : goal.returns-clause-ok
returns-clause-ok c = c.decide_as.ensures ∙ sym (allowed_after (Decide c.args.block c.args.stamp) c.args.plans.now c.in-Ok.ensures.allowed)

pub returns-clause-answer : goal.returns-clause-answer
returns-clause-answer c =
    decided_answer c.args.leader c.args.block c.args.stamp c.args.plans.now c.in_ok-told.told c.in-Ok.decided.1 c.in-Ok.ensures.allowed
    (c.in-Ok.ensures.told ∙ ap Some (sym c.in_ok-told.ensures.cases)) c.in-Ok.ensures.sent

pub returns-in-Err-Refused-clause-ok : goal.returns-in-Err-Refused-clause-ok
returns-in-Err-Refused-clause-ok c =
    sym (refused_after (Decide c.args.block c.args.stamp) c.args.plans.now c.in-Err-Refused.refusal
    (refused_is (refused_decide (plan_at c.args.block c.args.stamp c.args.plans.now)) c.in-Err-Refused.field-0 c.in-Err-Refused.refusal c.in-Err-Refused.field-0-is c.in-Err-Refused.ensures.fault))

pub returns-in-Err-Refused-clause-answer : goal.returns-in-Err-Refused-clause-answer
returns-in-Err-Refused-clause-answer c =
    c.refuse.ensures ∙ (ap refused_with c.in-Err-Refused.refusal-is ∙ sym (refused_answer c.args.leader (Decide c.args.block c.args.stamp) c.args.plans.now c.in-Err-Refused.refusal
    (refused_is (refused_decide (plan_at c.args.block c.args.stamp c.args.plans.now)) c.in-Err-Refused.field-0 c.in-Err-Refused.refusal c.in-Err-Refused.field-0-is c.in-Err-Refused.ensures.fault)))
