use Rattle.std.proofs.Common.{sym, ap, ◌∙◌}
use Rattle.node_calls.specs.declared.call.PlanCall.{PlanCall}
use Rattle.node_calls.specs.declared.call.PlanCall.TheVariants.{Reply}
use Rattle.block_recovery.specs.Plans.{plan_at, with_plan_changed, refused_reply, with_answer}
use Rattle.block_recovery.specs.declared.answer.Answer.{Answer}
use Rattle.plan_steps.proofs.Steps.{refused_is, allowed_after, refused_after, allowed_answer, refused_answer}
use Rattle.plan_steps.proofs.lead.reply.Goals as goal

pub returns-in-Ok-clause-ok : goal.returns-in-Ok-clause-ok
returns-in-Ok-clause-ok c =
    let asked : PlanCall = Reply c.args.node c.args.block c.args.stamp c.args.state c.args.length in
    c.in-Ok.ensures.ok
    ∙ (ap (λ (own : Answer). with_plan_changed (with_answer c.args.node own) c.args.block c.args.stamp c.args.plans.now) c.answer_of.ensures ∙ sym (allowed_after asked c.args.plans.now c.in-Ok.ensures.allowed))

pub returns-in-Ok-clause-answer : goal.returns-in-Ok-clause-answer
returns-in-Ok-clause-answer c =
    let asked : PlanCall = Reply c.args.node c.args.block c.args.stamp c.args.state c.args.length in
    c.note.ensures ∙ sym (allowed_answer c.args.leader asked c.args.plans.now c.in-Ok.ensures.allowed)

pub returns-in-Err-Refused-clause-ok : goal.returns-in-Err-Refused-clause-ok
returns-in-Err-Refused-clause-ok c =
    let asked : PlanCall = Reply c.args.node c.args.block c.args.stamp c.args.state c.args.length in
    c.in-Err-Refused.ensures.err ∙ sym (refused_after asked c.args.plans.now c.in-Err-Refused.refusal (refused_is (refused_reply c.args.node (plan_at c.args.block c.args.stamp c.args.plans.now)) c.in-Err-Refused.field-0 c.in-Err-Refused.refusal c.in-Err-Refused.field-0-is c.in-Err-Refused.ensures.fault))

pub returns-in-Err-Refused-clause-answer : goal.returns-in-Err-Refused-clause-answer
returns-in-Err-Refused-clause-answer c =
    let asked : PlanCall = Reply c.args.node c.args.block c.args.stamp c.args.state c.args.length in
    c.refuse.ensures ∙ sym (refused_answer c.args.leader asked c.args.plans.now c.in-Err-Refused.refusal (refused_is (refused_reply c.args.node (plan_at c.args.block c.args.stamp c.args.plans.now)) c.in-Err-Refused.field-0 c.in-Err-Refused.refusal c.in-Err-Refused.field-0-is c.in-Err-Refused.ensures.fault))
