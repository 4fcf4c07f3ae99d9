-- A message as it is found, and what carrying it out leaves.
use Rattle.std.specs.Prelude.{ℕ, List, Option, Some, None, option_map}
use denote.Ref.{Bor}
use Rattle.node_ids.specs.NodeId.{node_of}
use Rattle.block_answers.specs.Commands.{Commands}
use Rattle.hdfs_types.specs.declared.reply.Reply.{Reply}
use Rattle.hdfs_types.specs.declared.reply.Reply.TheVariants as reply
use Rattle.flat_rows.specs.declared.verdict.Verdict.{Verdict}
use Rattle.flat_rows.specs.declared.verdict.Verdict.TheVariants.{Done, Denied, Refused}
use Rattle.history.specs.declared.entry.HistoryEntry.{HistoryEntry}
use Rattle.node_calls.specs.declared.call.NodeCall.TheVariants.{Keys}
use Rattle.node_calls.specs.declared.message.Message.{Message}
use Rattle.node_calls.specs.declared.message.Message.TheVariants as message
use Rattle.node_calls.specs.Single.{message_of_single}
use Rattle.datanode.specs.NodeStep.{DataNode}
use Rattle.block_recovery.specs.Plans.{PlanTable}
use Rattle.cluster_trace.specs.Trace.{recover_message, removal_message, copy_message, report_request, commit_request}
use Rattle.cluster_parts.specs.Leaders.{plans_led, answer_led}
use Rattle.cluster_parts.specs.Nodes.{nodes_after, answer_at}
use Rattle.cluster_parts.specs.declared.found.Found.{Found}
use Rattle.cluster_parts.specs.declared.found.Found.TheVariants as found
use Rattle.cluster_parts.specs.declared.carried.Carried.{Carried}
use Rattle.cluster_parts.specs.declared.carried.Carried.TheVariants as carried

-- the message that was found
abbrev pub message_of_found : Found → Message
message_of_found (found.Kept own) = own.now
message_of_found (found.Single own) = message_of_single own
message_of_found (found.Keys node keys) = message.Node node (Keys keys.now)
message_of_found (found.Recovery node own) = recover_message node own.now
message_of_found (found.Removal node own) = removal_message node own
message_of_found (found.Copy node own) = copy_message node own.now

abbrev pub found_message : Option (Bor Found) → Option Message
found_message found = option_map (λ (own : Bor Found). message_of_found own.now) found

-- the commands in an entry, and the DataNode that they are for
abbrev pub told_for : Option ℕ → Reply → Option (ℕ × Commands)
told_for (Some node) (reply.Commands commands) = Some (node, commands)
told_for _ told = None

abbrev pub verdict_for : Option ℕ → Verdict → Option (ℕ × Commands)
verdict_for caller (Done told) = told_for caller told
verdict_for caller (Denied denial) = None
verdict_for caller (Refused refusal) = None

abbrev pub commands_for : HistoryEntry → Option (ℕ × Commands)
commands_for entry = verdict_for (node_of entry.request.caller) entry.verdict

abbrev pub commands_seen : Option (ℕ × Bor Commands) → Option (ℕ × Commands)
commands_seen found = option_map (λ (own : ℕ × Bor Commands). (own.0, own.1.now)) found

-- what comes of it: a DataNode is called, also about the recoveries that it leads, or the NameNode is told something, by a request in the node's name
abbrev pub carried_out : List (ℕ × DataNode) → List (ℕ × PlanTable) → ℕ → Option Message → Carried
carried_out nodes plans now None = carried.Nowhere
carried_out nodes plans now (Some (message.Node node asked)) = carried.Called (answer_at node now asked nodes)
carried_out nodes plans now (Some (message.Plan node asked)) = carried.Led (answer_led node asked plans)
carried_out nodes plans now (Some (message.Reported node block stamp bytes)) = carried.Told (report_request node now block stamp bytes)
carried_out nodes plans now (Some (message.CommitRecovery node block stamp bytes others)) = carried.Told (commit_request node now block stamp bytes others)

abbrev pub nodes_carried : List (ℕ × DataNode) → ℕ → Option Message → List (ℕ × DataNode)
nodes_carried nodes now None = nodes
nodes_carried nodes now (Some (message.Node node asked)) = nodes_after node now asked nodes
nodes_carried nodes now (Some (message.Plan node asked)) = nodes
nodes_carried nodes now (Some (message.Reported node block stamp bytes)) = nodes
nodes_carried nodes now (Some (message.CommitRecovery node block stamp bytes others)) = nodes

abbrev pub plans_carried : List (ℕ × PlanTable) → Option Message → List (ℕ × PlanTable)
plans_carried plans None = plans
plans_carried plans (Some (message.Node node asked)) = plans
plans_carried plans (Some (message.Plan node asked)) = plans_led node asked plans
plans_carried plans (Some (message.Reported node block stamp bytes)) = plans
plans_carried plans (Some (message.CommitRecovery node block stamp bytes others)) = plans
