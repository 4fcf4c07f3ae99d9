use Rattle.std.proofs.Common.{sym, ap, ◌∙◌, [], Ok}
use Rattle.node_calls.specs.declared.call.PlanCall.{PlanCall}
use Rattle.node_calls.specs.declared.call.PlanCall.TheVariants.{Commit}
use Rattle.block_recovery.specs.Plans.{plan_at, refused_plan_commit}
use Rattle.plan_steps.proofs.Steps.{refused_with, refused_is, allowed_after, refused_after, refused_answer, committed_answer}
use Rattle.plan_steps.proofs.lead.commit.Goals as goal

pub returns-in-Err-Refused-clause-ok : goal.returns-in-Err-Refused-clause-ok
returns-in-Err-Refused-clause-ok c = sym (refused_after (Commit c.args.block c.args.stamp) c.args.plans.now c.in-Err-Refused.refusal (refused_is (refused_plan_commit (plan_at c.args.block c.args.stamp c.args.plans.now)) c.in-Err-Refused.field-0 c.in-Err-Refused.refusal c.in-Err-Refused.field-0-is c.in-Err-Refused.ensures.fault))

pub returns-in-Err-Refused-clause-answer : goal.returns-in-Err-Refused-clause-answer
returns-in-Err-Refused-clause-answer c =
    c.refuse.ensures ∙ (ap refused_with c.in-Err-Refused.refusal-is ∙ sym (refused_answer c.args.leader (Commit c.args.block c.args.stamp) c.args.plans.now c.in-Err-Refused.refusal (refused_is (refused_plan_commit (plan_at c.args.block c.args.stamp c.args.plans.now)) c.in-Err-Refused.field-0 c.in-Err-Refused.refusal c.in-Err-Refused.field-0-is c.in-Err-Refused.ensures.fault)))

pub returns-clause-ok : goal.returns-clause-ok
returns-clause-ok c = sym (allowed_after (Commit c.args.block c.args.stamp) c.args.plans.now c.in-Ok.ensures.allowed)

pub returns-clause-answer : goal.returns-clause-answer
returns-clause-answer c =
    committed_answer c.args.leader c.args.block c.args.stamp c.args.plans.now c.in-Ok.commit c.in_ok-one.field-0 c.in-Ok.ensures.allowed c.in-Ok.ensures.told c.in_ok-one.ensures
