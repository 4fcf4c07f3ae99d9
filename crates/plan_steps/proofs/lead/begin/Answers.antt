use Rattle.std.proofs.Common.{ℕ, List, length, sym, ap, ◌∙◌}
use Rattle.node_calls.specs.declared.call.PlanCall.{PlanCall}
use Rattle.node_calls.specs.declared.call.PlanCall.TheVariants.{Recover}
use Rattle.node_calls.specs.declared.call.TokenCall.TheVariants.{InitRecovery}
use Rattle.call_parts.specs.declared.presented.Presented.{Presented}
use Rattle.block_recovery.specs.Plans.{refused_begin}
use Rattle.plan_steps.specs.PlanStep.{presented_by_leader, to_each}
use Rattle.plan_steps.proofs.Steps.{refused_with, refused_is, allowed_after, refused_after, refused_answer, begun_answer}
use Rattle.plan_steps.proofs.lead.begin.Goals as goal

pub returns-in-Ok-clause-ok : goal.returns-in-Ok-clause-ok
returns-in-Ok-clause-ok c =
    let own = c.args.recover.now in
    c.in-Ok.ensures.ok ∙ sym (allowed_after (Recover own.block own.stamp own.nodes own.token) c.args.plans.now c.in-Ok.ensures.allowed)

pub returns-in-Ok-clause-answer : goal.returns-in-Ok-clause-answer
returns-in-Ok-clause-answer c =
    let own = c.args.recover.now in
    begun_answer c.args.leader own c.args.plans.now (length c.as_slice-in-Ok.result.now) c.in_ok-messages.messages c.in-Ok.ensures.allowed
    (ap (λ (nodes : List ℕ). length nodes) (c.as_slice-in-Ok.ensures.nodes ∙ c.in-Ok.ensures.asked))
    (c.in_ok-messages.ensures
    ∙ (ap (λ (presented : Presented). to_each presented InitRecovery c.as_slice.result.now) c.in_ok-presented.ensures
    ∙ ap (λ (nodes : List ℕ). to_each (presented_by_leader c.args.leader own.block own.stamp own.token) InitRecovery nodes) c.as_slice.ensures.nodes))

pub returns-in-Err-Refused-clause-ok : goal.returns-in-Err-Refused-clause-ok
returns-in-Err-Refused-clause-ok c =
    let own = c.args.recover.now in
    c.in-Err-Refused.ensures.err ∙ sym (refused_after (Recover own.block own.stamp own.nodes own.token) c.args.plans.now c.in-Err-Refused.refusal
    (refused_is (refused_begin own c.args.plans.now) c.in-Err-Refused.field-0 c.in-Err-Refused.refusal c.in-Err-Refused.field-0-is c.in-Err-Refused.ensures.fault))

pub returns-in-Err-Refused-clause-answer : goal.returns-in-Err-Refused-clause-answer
returns-in-Err-Refused-clause-answer c =
    let own = c.args.recover.now in
    c.refuse.ensures ∙ (ap refused_with c.in-Err-Refused.refusal-is ∙ sym (refused_answer c.args.leader (Recover own.block own.stamp own.nodes own.token) c.args.plans.now c.in-Err-Refused.refusal
    (refused_is (refused_begin own c.args.plans.now) c.in-Err-Refused.field-0 c.in-Err-Refused.refusal c.in-Err-Refused.field-0-is c.in-Err-Refused.ensures.fault)))
