-- What a call leaves and is answered, where it is refused and where it isn't.
use Rattle.std.proofs.Common.{◌≡◌, ℕ, List, [], ◌∷◌, length, sym, ap, ◌∙◌, subst, Option, Some, None, unwrap_or, Ok, Err}
use Rattle.std.specs.Option.{option_and_then}
use Rattle.block_answers.specs.declared.commands.Recover.{Recover}
use Rattle.node_calls.specs.declared.call.PlanCall.TheVariants as plan
use Rattle.node_calls.specs.declared.call.TokenCall.TheVariants as call
use Rattle.node_calls.specs.declared.message.Message.{Message}
use Rattle.node_calls.specs.declared.message.Message.TheVariants as message
use Rattle.node_calls.specs.declared.call.PlanCall.{PlanCall}
use Rattle.block_recovery.specs.Plans.{PlanTable, IsPlanFaultOf, plan_at, refused_begin, refused_decide, decision_for, refused_plan_commit, commit_of}
use Rattle.block_recovery.specs.declared.decision.Commit.{Commit}
use Rattle.block_recovery.specs.declared.decision.Decision.{Decision}
use Rattle.recovery_updates.specs.declared.fault.PlanFault.{PlanFault}
use Rattle.recovery_updates.specs.declared.fault.PlanFault.TheVariants.{Refused}
use Rattle.recovery_updates.specs.declared.fault.PlanRefusal.{PlanRefusal}
use Rattle.block_recovery.specs.declared.plan.Plan.{Plan}
use Rattle.plan_steps.specs.PlanStep.{plan_refusal, plans_with, left_unless, plans_after, no_plan, no_decision, no_commit, plan_there, decision_there, commit_there, presented_by_leader, to_each, plan_reply, plan_sends, told_unless, plan_answer}
use Rattle.plan_steps.specs.declared.answered.PlanAnswered.{PlanAnswered}
use Rattle.plan_steps.specs.declared.answered.PlanReply.TheVariants as reply

pub allowed_after : (asked : PlanCall) (plans : PlanTable) → plan_refusal asked plans ≡ None → plans_after asked plans ≡ plans_with asked plans
unfolding plans_after
allowed_after asked plans e = ap (left_unless asked plans) e

pub refused_after : (asked : PlanCall) (plans : PlanTable) (refusal : PlanRefusal) → plan_refusal asked plans ≡ Some refusal → plans_after asked plans ≡ plans
unfolding plans_after
refused_after asked plans refusal e = ap (left_unless asked plans) e

pub allowed_answer : (leader : ℕ) (asked : PlanCall) (plans : PlanTable) → plan_refusal asked plans ≡ None → plan_answer leader asked plans ≡ record { result = Ok (plan_reply asked plans); messages = plan_sends leader asked plans }
unfolding plan_answer
allowed_answer leader asked plans e = ap (told_unless leader asked plans) e

pub refused_answer : (leader : ℕ) (asked : PlanCall) (plans : PlanTable) (refusal : PlanRefusal) → plan_refusal asked plans ≡ Some refusal → plan_answer leader asked plans ≡ record { result = Err refusal; messages = [] }
unfolding plan_answer
refused_answer leader asked plans refusal e = ap (told_unless leader asked plans) e

-- a refusal, as it is answered
abbrev pub refused_with : PlanRefusal → PlanAnswered
refused_with refusal = record { result = Err refusal; messages = [] }

-- what a fault says that is a refusal
pub refused_is : (found : Option PlanRefusal) (fault : PlanFault) (refusal : PlanRefusal) → fault ≡ Refused refusal → IsPlanFaultOf found fault → found ≡ Some refusal
refused_is found fault refusal is told = subst (IsPlanFaultOf found) is told

-- ---- what a plan tells

never : {X : Type 0} {A : Type 0} (x : X) → None ≡ Some x → A
never x e = cc

-- what is decided is the decision of the plan that is there
pub decided_there : (block stamp : ℕ) (plans : PlanTable) (decision : Decision) → option_and_then decision_for (plan_at block stamp plans) ≡ Some decision → decision_there (plan_there block stamp plans) ≡ decision
decided_there block stamp plans decision e = by (plan_at block stamp plans) e
  where
    by : (found : Option Plan) → option_and_then decision_for found ≡ Some decision → decision_there (unwrap_or found no_plan) ≡ decision
    by None h = never decision h
    by (Some own) h = ap (λ told. unwrap_or told no_decision) h

pub committed_there : (block stamp : ℕ) (plans : PlanTable) (commit : Commit) → option_and_then commit_of (plan_at block stamp plans) ≡ Some commit → commit_there (plan_there block stamp plans) ≡ commit
committed_there block stamp plans commit e = by (plan_at block stamp plans) e
  where
    by : (found : Option Plan) → option_and_then commit_of found ≡ Some commit → commit_there (unwrap_or found no_plan) ≡ commit
    by None h = never commit h
    by (Some own) h = ap (λ told. unwrap_or told no_commit) h

pub committed_answer : (leader block stamp : ℕ) (plans : PlanTable) (commit : Commit) (messages : List Message) → refused_plan_commit (plan_at block stamp plans) ≡ None
    → option_and_then commit_of (plan_at block stamp plans) ≡ Some commit → messages ≡ message.CommitRecovery leader block stamp commit.length commit.nodes ∷ []
    → record { result = Ok (reply.Committed commit.length); messages = messages } ≡ plan_answer leader (plan.Commit block stamp) plans
committed_answer leader block stamp plans commit messages allowed told sent =
    ap (λ (own : List Message). record { result = Ok (reply.Committed commit.length); messages = own }) sent
    ∙ (ap (λ (own : Commit). record { result = Ok (reply.Committed own.length); messages = message.CommitRecovery leader block stamp own.length own.nodes ∷ [] }) (sym (committed_there block stamp plans commit told))
    ∙ sym (allowed_answer leader (plan.Commit block stamp) plans allowed))

pub decided_answer : (leader block stamp : ℕ) (plans : PlanTable) (decision : Decision) (messages : List Message) → refused_decide (plan_at block stamp plans) ≡ None
    → option_and_then decision_for (plan_at block stamp plans) ≡ Some decision → messages ≡ plan_sends leader (plan.Decide block stamp) plans
    → record { result = Ok (reply.Decided decision); messages = messages } ≡ plan_answer leader (plan.Decide block stamp) plans
decided_answer leader block stamp plans decision messages allowed told sent =
    ap (λ (own : List Message). record { result = Ok (reply.Decided decision); messages = own }) sent
    ∙ (ap (λ (own : Decision). record { result = Ok (reply.Decided own); messages = plan_sends leader (plan.Decide block stamp) plans }) (sym (decided_there block stamp plans decision told))
    ∙ sym (allowed_answer leader (plan.Decide block stamp) plans allowed))

pub begun_answer : (leader : ℕ) (recover : Recover) (plans : PlanTable) (count : ℕ) (messages : List Message) → refused_begin recover plans ≡ None → count ≡ length recover.nodes
    → messages ≡ to_each (presented_by_leader leader recover.block recover.stamp recover.token) call.InitRecovery recover.nodes
    → record { result = Ok (reply.Asked count); messages = messages } ≡ plan_answer leader (plan.Recover recover.block recover.stamp recover.nodes recover.token) plans
begun_answer leader recover plans count messages allowed many sent =
    ap (λ (own : List Message). record { result = Ok (reply.Asked count); messages = own }) sent
    ∙ (ap (λ (n : ℕ). record { result = Ok (reply.Asked n); messages = to_each (presented_by_leader leader recover.block recover.stamp recover.token) call.InitRecovery recover.nodes }) many
    ∙ sym (allowed_answer leader (plan.Recover recover.block recover.stamp recover.nodes recover.token) plans allowed))
