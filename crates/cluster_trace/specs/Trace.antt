-- A cluster, over every list of events: a NameNode, DataNodes, and all messages that were ever sent. A message may be delivered once or
-- often, in any order, or never. Lists of events and of entries have the newest first.
-- (HDFS Architecture, "The Communication Protocols": clients and DataNodes call the NameNode, which calls nobody, and answers heartbeats
-- with commands.)
use Rattle.std.specs.Prelude.{ℕ, zero, suc, ◌+◌, Bool, true, false, if◌then◌else◌, List, [], ◌∷◌, ◌++◌, map, fold, length, Option, Some, None, slice_get}
use Rattle.std.specs.BTreeMap.{insert_entry}
use Rattle.std.specs.Map.{set_value}
use Rattle.std.specs.Ordering.{nat_cmp}
use Rattle.block_records.specs.Numbers.{is_number, entry_at}
use Rattle.node_ids.specs.NodeId.{node_of, node_principal}
use Rattle.block_answers.specs.Commands.{Commands}
use Rattle.block_answers.specs.declared.commands.CopyOrder.{CopyOrder}
use Rattle.block_answers.specs.declared.commands.Recover.{Recover}
use Rattle.block_answers.specs.declared.commands.Removal.{Removal}
use Rattle.hdfs_types.specs.declared.op.Op.{Op}
use Rattle.hdfs_types.specs.declared.op.Op.TheVariants as op
use Rattle.hdfs_types.specs.declared.op.Request.{Request}
use Rattle.hdfs_types.specs.declared.reply.Reply.{Reply}
use Rattle.hdfs_types.specs.declared.reply.Reply.TheVariants as reply
use Rattle.flat_rows.specs.declared.verdict.Verdict.{Verdict}
use Rattle.flat_rows.specs.declared.verdict.Verdict.TheVariants.{Done, Denied, Refused}
use Rattle.history.specs.Config as name
use Rattle.history.specs.LegalHistory.{verdict_of}
use Rattle.history.specs.declared.entry.HistoryEntry.{HistoryEntry}
use Rattle.node_calls.specs.declared.call.NodeCall.{NodeCall}
use Rattle.node_calls.specs.declared.call.NodeCall.TheVariants.{Invalidate, Keys}
use Rattle.node_calls.specs.declared.call.PlanCall.{PlanCall}
use Rattle.node_calls.specs.declared.call.PlanCall.TheVariants as plan
use Rattle.node_calls.specs.declared.message.Message.{Message}
use Rattle.node_calls.specs.declared.message.Message.TheVariants as message
use Rattle.datanode.specs.NodeStep.{DataNode, node_after, node_answer, copy_call}
use Rattle.datanode.specs.declared.answered.Answered.{Answered}
use Rattle.block_recovery.specs.Plans.{PlanTable}
use Rattle.plan_steps.specs.PlanStep.{plans_after, plan_answer}
use Rattle.plan_steps.specs.declared.answered.PlanAnswered.{PlanAnswered}
use Rattle.cluster_trace.specs.DataCall.{as_message}
use Rattle.cluster_trace.specs.declared.event.Event.{Event}
use Rattle.cluster_trace.specs.declared.event.Event.TheVariants.{Name, Deliver, Data}
use Rattle.cluster_trace.specs.declared.outcome.ClusterRefusal.{ClusterRefusal}
use Rattle.cluster_trace.specs.declared.outcome.ClusterRefusal.TheVariants.{NoMessage, NoNode, NotFromOutside}
use Rattle.cluster_trace.specs.declared.outcome.EventAnswer.{EventAnswer}
use Rattle.cluster_trace.specs.declared.outcome.EventAnswer.TheVariants.{Named, Called, Led, Lost}
use Rattle.cluster_trace.specs.declared.outcome.Outcome.{Outcome}

pub record Cluster : Type 0 where
  -- of the NameNode: what it opened with, and its history
  pub opening : name.Opening
  pub entries : List HistoryEntry
  -- the DataNodes by their ids
  pub nodes : List (ℕ × DataNode)
  -- of each DataNode the recoveries that it leads
  pub plans : List (ℕ × PlanTable)
  -- in the order in which they were sent
  pub messages : List Message

-- ---- how a cluster begins

pub record ClusterOpening : Type 0 where
  pub name : name.Opening
  -- the ids of the DataNodes
  pub nodes : List ℕ

-- without a replica and without a key
abbrev pub new_node : ℕ → ℕ → DataNode
new_node limit id = record { id = id; limit = limit; clock = 0; keys = []; blocks = []; log = [] }

abbrev pub with_new_node : ℕ → List (ℕ × DataNode) → ℕ → List (ℕ × DataNode)
with_new_node limit nodes id = insert_entry nat_cmp nodes id (new_node limit id)

-- it leads none
abbrev pub with_no_plan : List (ℕ × PlanTable) → ℕ → List (ℕ × PlanTable)
with_no_plan plans id = insert_entry nat_cmp plans id []

abbrev pub start : ClusterOpening → Cluster
start opening = record {
  opening = opening.name;
  entries = [];
  nodes = fold (with_new_node opening.name.config.replica_limit) [] opening.nodes;
  plans = fold with_no_plan [] opening.nodes;
  messages = [];
}

-- ---- what an event does

-- what is answered and sent, and what is left of the NameNode's history, of the DataNodes and of the recoveries that they lead
pub record Happened : Type 0 where
  pub answer : EventAnswer
  pub sent : List Message
  pub entries : List HistoryEntry
  pub nodes : List (ℕ × DataNode)
  pub plans : List (ℕ × PlanTable)

abbrev pub event_lost : Cluster → ClusterRefusal → Happened
event_lost state refusal = record { answer = Lost refusal; sent = []; entries = state.entries; nodes = state.nodes; plans = state.plans }

-- ---- requests to the NameNode

-- the next entry, with the verdict that those before it give
abbrev pub entry_of : Cluster → Request → HistoryEntry
entry_of state request =
    record { place = length state.entries + 1; pass = 0; index = length state.entries; request = request; verdict = verdict_of state.opening state.entries request }

-- a command is carried out by the message that brings it
abbrev pub recover_message : ℕ → Recover → Message
recover_message node own = message.Plan node (plan.Recover own.block own.stamp own.nodes own.token)

abbrev pub removal_message : ℕ → Removal → Message
removal_message node own = message.Node node (Invalidate own.block own.stamp)

abbrev pub copy_message : ℕ → CopyOrder → Message
copy_message node own = message.Node node (copy_call node own.block own.stamp own.token own.target)

abbrev pub command_messages : ℕ → Commands → List Message
command_messages node commands =
    (message.Node node (Keys commands.keys) ∷ map (recover_message node) commands.recoveries)
    ++ (map (removal_message node) commands.removals ++ map (copy_message node) commands.copies)

-- to the node whose principal sent the heartbeat
abbrev pub told_messages : Option ℕ → Reply → List Message
told_messages (Some node) (reply.Commands commands) = command_messages node commands
told_messages _ told = []

abbrev pub sent_by : Option ℕ → Verdict → List Message
sent_by caller (Done told) = told_messages caller told
sent_by caller (Denied denial) = []
sent_by caller (Refused refusal) = []

abbrev pub entry_messages : HistoryEntry → List Message
entry_messages entry = sent_by (node_of entry.request.caller) entry.verdict

-- a request makes the next entry, whatever the verdict, and is answered by it
abbrev pub request_named : Cluster → Request → Happened
request_named state request = record {
  answer = Named (entry_of state request).place;
  sent = entry_messages (entry_of state request);
  entries = entry_of state request ∷ state.entries;
  nodes = state.nodes;
  plans = state.plans;
}

-- messages alone bring what DataNodes report
abbrev pub is_from_outside : Op → Bool
is_from_outside (op.Reported replica) = false
is_from_outside (op.CommitRecovery recovered) = false
is_from_outside _ = true

-- ---- calls of a DataNode

abbrev pub node_answered : Cluster → ℕ → DataNode → Answered → Happened
node_answered state id left own = record {
  answer = Called own.result;
  sent = own.messages;
  entries = state.entries;
  nodes = set_value (is_number id) state.nodes left;
  plans = state.plans;
}

abbrev pub called_at : Cluster → ℕ → ℕ → NodeCall → Option DataNode → Happened
called_at state id now asked None = event_lost state NoNode
called_at state id now asked (Some node) = node_answered state id (node_after node now asked) (node_answer node now asked)

abbrev pub node_called : Cluster → ℕ → ℕ → NodeCall → Happened
node_called state id now asked = called_at state id now asked (entry_at id state.nodes)

-- ---- calls of a DataNode about the recoveries that it leads: no clock moves on

abbrev pub led_on : Cluster → ℕ → PlanTable → PlanAnswered → Happened
led_on state id left own = record {
  answer = Led own.result;
  sent = own.messages;
  entries = state.entries;
  nodes = state.nodes;
  plans = set_value (is_number id) state.plans left;
}

abbrev pub led_at : Cluster → ℕ → PlanCall → Option PlanTable → Happened
led_at state id asked None = event_lost state NoNode
led_at state id asked (Some plans) = led_on state id (plans_after asked plans) (plan_answer id asked plans)

abbrev pub leader_called : Cluster → ℕ → PlanCall → Happened
leader_called state id asked = led_at state id asked (entry_at id state.plans)

-- ---- messages

-- the first has the number 1
abbrev pub message_at : ℕ → List Message → Option Message
message_at zero messages = None
message_at (suc before) messages = slice_get messages before

-- a node's report is a request in its own name
abbrev pub report_request : ℕ → ℕ → ℕ → ℕ → ℕ → Request
report_request node now block stamp bytes =
    record { caller = node_principal node; moment = now; op = op.Reported (record { block = block; stamp = stamp; length = bytes }) }

-- and so is the end of a recovery that it led
abbrev pub commit_request : ℕ → ℕ → ℕ → ℕ → ℕ → List ℕ → Request
commit_request node now block stamp bytes nodes =
    record { caller = node_principal node; moment = now; op = op.CommitRecovery (record { block = block; stamp = stamp; length = bytes; nodes = nodes }) }

abbrev pub message_delivered : Cluster → ℕ → Option Message → Happened
message_delivered state now None = event_lost state NoMessage
message_delivered state now (Some (message.Node node asked)) = node_called state node now asked
message_delivered state now (Some (message.Plan node asked)) = leader_called state node asked
message_delivered state now (Some (message.Reported node block stamp bytes)) = request_named state (report_request node now block stamp bytes)
message_delivered state now (Some (message.CommitRecovery node block stamp bytes nodes)) = request_named state (commit_request node now block stamp bytes nodes)

-- ---- events

abbrev pub event_happened : Cluster → Event → Happened
event_happened state (Name request) = if is_from_outside request.op then request_named state request else event_lost state NotFromOutside
event_happened state (Deliver number now) = message_delivered state now (message_at number state.messages)
event_happened state (Data node now asked) = message_delivered state now (Some (as_message node asked))

-- the numbers of what it sends go on from those before
abbrev pub outcome_of : Cluster → Happened → Outcome
outcome_of state what = record { answer = what.answer; first = length state.messages + 1; count = length what.sent }

abbrev pub event_outcome : Cluster → Event → Outcome
event_outcome state event = outcome_of state (event_happened state event)

abbrev pub left_by : Cluster → Happened → Cluster
left_by state what = record { opening = state.opening; entries = what.entries; nodes = what.nodes; plans = what.plans; messages = state.messages ++ what.sent }

abbrev pub happens : Cluster → Event → Cluster
happens state event = left_by state (event_happened state event)

-- ---- traces

abbrev pub after : ClusterOpening → List Event → Cluster
after opening [] = start opening
after opening (event ∷ earlier) = happens (after opening earlier) event

-- what comes of the events, the oldest first
abbrev pub outcomes : ClusterOpening → List Event → List Outcome
outcomes opening [] = []
outcomes opening (event ∷ earlier) = outcomes opening earlier ++ event_outcome (after opening earlier) event ∷ []
