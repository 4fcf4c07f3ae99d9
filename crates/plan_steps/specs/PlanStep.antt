-- What a DataNode does that leads recoveries of blocks: which calls it refuses, what it answers to the others and sends with it, and what
-- is left of its plans. No call looks at a clock or at a token.
-- (HDFS-265, "Block recovery": the leading node asks the others for their replicas, decides on a length, has the replicas cut to it, and
-- tells the NameNode.)
use Rattle.std.specs.Prelude.{ℕ, Bool, true, false, List, [], ◌∷◌, map, length, Option, Some, None, unwrap_or, Ok, Err}
use Rattle.node_ids.specs.NodeId.{node_principal}
use Rattle.block_answers.specs.declared.commands.Recover.{Recover}
use Rattle.node_calls.specs.declared.call.NodeCall.TheVariants.{Presenting}
use Rattle.node_calls.specs.declared.call.PlanCall.{PlanCall}
use Rattle.node_calls.specs.declared.call.PlanCall.TheVariants as plan
use Rattle.node_calls.specs.declared.call.ReplicaState.{ReplicaState}
use Rattle.node_calls.specs.declared.call.ReplicaState.TheVariants.{Writing, Finalized}
use Rattle.node_calls.specs.declared.call.TokenCall.{TokenCall}
use Rattle.node_calls.specs.declared.call.TokenCall.TheVariants as call
use Rattle.node_calls.specs.declared.message.Message.{Message}
use Rattle.node_calls.specs.declared.message.Message.TheVariants as message
use Rattle.call_parts.specs.declared.presented.Presented.{Presented}
use Rattle.block_recovery.specs.Plans.{PlanTable, plan_at, with_plan_changed, refused_begin, with_plan_begun, refused_reply, with_answer, refused_decide, decision_for, with_decision, refused_updated, with_updated, refused_plan_commit, commit_of}
use Rattle.block_recovery.specs.declared.answer.Answer.{Answer}
use Rattle.block_recovery.specs.declared.decision.Commit.{Commit}
use Rattle.block_recovery.specs.declared.decision.Decision.{Decision}
use Rattle.recovery_updates.specs.declared.fault.PlanRefusal.{PlanRefusal}
use Rattle.block_recovery.specs.declared.plan.Plan.{Plan}
use Rattle.plan_steps.specs.declared.answered.PlanAnswered.{PlanAnswered}
use Rattle.plan_steps.specs.declared.answered.PlanReply.{PlanReply}
use Rattle.plan_steps.specs.declared.answered.PlanReply.TheVariants as reply

-- ---- what is refused

abbrev pub recover_of : ℕ → ℕ → List ℕ → List ℕ → Recover
recover_of block stamp nodes token = record { block = block; stamp = stamp; nodes = nodes; token = token }

abbrev pub plan_refusal : PlanCall → PlanTable → Option PlanRefusal
plan_refusal (plan.Recover block stamp nodes token) plans = refused_begin (recover_of block stamp nodes token) plans
plan_refusal (plan.Reply node block stamp state bytes) plans = refused_reply node (plan_at block stamp plans)
plan_refusal (plan.Decide block stamp) plans = refused_decide (plan_at block stamp plans)
plan_refusal (plan.Updated node block stamp) plans = refused_updated node (plan_at block stamp plans)
plan_refusal (plan.Commit block stamp) plans = refused_plan_commit (plan_at block stamp plans)

-- ---- what is left of the plans

abbrev pub is_finalized : ReplicaState → Bool
is_finalized Writing = false
is_finalized Finalized = true

abbrev pub answer_of : ReplicaState → ℕ → Answer
answer_of state bytes = record { length = bytes; finalized = is_finalized state }

-- by a call that isn't refused
abbrev pub plans_with : PlanCall → PlanTable → PlanTable
plans_with (plan.Recover block stamp nodes token) plans = with_plan_begun (recover_of block stamp nodes token) plans
plans_with (plan.Reply node block stamp state bytes) plans = with_plan_changed (with_answer node (answer_of state bytes)) block stamp plans
plans_with (plan.Decide block stamp) plans = with_plan_changed with_decision block stamp plans
plans_with (plan.Updated node block stamp) plans = with_plan_changed (with_updated node) block stamp plans
plans_with (plan.Commit block stamp) plans = plans

abbrev pub left_unless : PlanCall → PlanTable → Option PlanRefusal → PlanTable
left_unless asked plans (Some refusal) = plans
left_unless asked plans None = plans_with asked plans

unfoldable pub plans_after : PlanCall → PlanTable → PlanTable
plans_after asked plans = left_unless asked plans (plan_refusal asked plans)

-- ---- what is answered and sent

-- one that asks nobody stands for the plan where there is none
abbrev pub no_plan : Plan
no_plan = record { nodes = []; token = []; answers = []; decision = None; updated = [] }

abbrev pub plan_there : ℕ → ℕ → PlanTable → Plan
plan_there block stamp plans = unwrap_or (plan_at block stamp plans) no_plan

-- what it decides, and what it commits; where that is nothing, no bytes and no nodes
abbrev pub no_decision : Decision
no_decision = record { length = 0; nodes = [] }

abbrev pub decision_there : Plan → Decision
decision_there own = unwrap_or (decision_for own) no_decision

abbrev pub no_commit : Commit
no_commit = record { length = 0; nodes = [] }

abbrev pub commit_there : Plan → Commit
commit_there own = unwrap_or (commit_of own) no_commit

abbrev pub plan_reply : PlanCall → PlanTable → PlanReply
plan_reply (plan.Recover block stamp nodes token) plans = reply.Asked (length nodes)
plan_reply (plan.Reply node block stamp state bytes) plans = reply.Noted
plan_reply (plan.Decide block stamp) plans = reply.Decided (decision_there (plan_there block stamp plans))
plan_reply (plan.Updated node block stamp) plans = reply.Noted
plan_reply (plan.Commit block stamp) plans = reply.Committed (commit_there (plan_there block stamp plans)).length

-- the leading node asks in its own name, and presents the token of the plan
abbrev pub presented_by_leader : ℕ → ℕ → ℕ → List ℕ → Presented
presented_by_leader leader block stamp token = record { caller = node_principal leader; block = block; stamp = stamp; token = token }

abbrev pub to_each : Presented → TokenCall → List ℕ → List Message
to_each presented asked nodes = map (λ node. message.Node node (Presenting presented asked)) nodes

-- the nodes that take part are to bring their replicas to the length
abbrev pub sent_on_decision : ℕ → ℕ → ℕ → Plan → List Message
sent_on_decision leader block stamp own =
    to_each (presented_by_leader leader block stamp own.token) (call.UpdateReplica (decision_there own).length) (decision_there own).nodes

abbrev pub plan_sends : ℕ → PlanCall → PlanTable → List Message
plan_sends leader (plan.Recover block stamp nodes token) plans = to_each (presented_by_leader leader block stamp token) call.InitRecovery nodes
plan_sends leader (plan.Reply node block stamp state bytes) plans = []
plan_sends leader (plan.Decide block stamp) plans = sent_on_decision leader block stamp (plan_there block stamp plans)
plan_sends leader (plan.Updated node block stamp) plans = []
plan_sends leader (plan.Commit block stamp) plans =
    let own = commit_there (plan_there block stamp plans) in
    message.CommitRecovery leader block stamp own.length own.nodes ∷ []

-- a refusal sends nothing
abbrev pub told_unless : ℕ → PlanCall → PlanTable → Option PlanRefusal → PlanAnswered
told_unless leader asked plans (Some refusal) = record { result = Err refusal; messages = [] }
told_unless leader asked plans None = record { result = Ok (plan_reply asked plans); messages = plan_sends leader asked plans }

-- by the node of this id
unfoldable pub plan_answer : ℕ → PlanCall → PlanTable → PlanAnswered
plan_answer leader asked plans = told_unless leader asked plans (plan_refusal asked plans)
