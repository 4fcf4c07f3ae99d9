-- Whatever happens in a cluster, DataNodes hold, and messages bring, no other keys than those that the NameNode made.
use Rattle.std.proofs.Common.{◌≡◌, ℕ, zero, suc, Bool, true, false, cond, List, [], ◌∷◌, refl, subst, fold, Option, Some, None}
use Rattle.std.specs.List.{AllByRecursion}
use Rattle.block_records.specs.Numbers.{entry_at}
use Rattle.node_ids.specs.NodeId.{node_of}
use Rattle.block_answers.specs.declared.key_list.HeldKey.{HeldKey}
use Rattle.hdfs_types.specs.declared.op.Request.{Request}
use Rattle.history.specs.Keys.{ring_of}
use Rattle.node_calls.specs.declared.call.NodeCall.{NodeCall}
use Rattle.node_calls.specs.declared.call.NodeCall.TheVariants.{Presenting, Invalidate, Keys}
use Rattle.node_calls.specs.declared.call.PlanCall.{PlanCall}
use Rattle.node_calls.specs.declared.call.PlanCall.TheVariants as plan
use Rattle.node_calls.specs.declared.call.TokenCall.{TokenCall}
use Rattle.node_calls.specs.declared.call.TokenCall.TheVariants as call
use Rattle.node_calls.specs.declared.message.Message.{Message}
use Rattle.node_calls.specs.declared.message.Message.TheVariants as message
use Rattle.call_parts.specs.declared.presented.Presented.{Presented}
use Rattle.node_calls.specs.declared.refusal.NodeRefusal.{NodeRefusal}
use Rattle.node_calls.specs.declared.refusal.ReplicaRefusal.{ReplicaRefusal}
use Rattle.replicas.specs.Asking.{asked_by}
use Rattle.replicas.specs.Sending.{call_sends, forward, to_primary}
use Rattle.replica_steps.specs.ReplicaStep.{held_at, removal_refusal}
use Rattle.replica_steps.specs.declared.held.Held.{Held}
use Rattle.datanode.specs.NodeStep.{DataNode, node_after, node_answer, presented_answer, told_by, removal_told, clock_with, call_refusal}
use Rattle.block_recovery.specs.Plans.{PlanTable}
use Rattle.recovery_updates.specs.declared.fault.PlanRefusal.{PlanRefusal}
use Rattle.plan_steps.specs.PlanStep.{plan_refusal, plan_there, decision_there, presented_by_leader, to_each, plan_sends, told_unless, plan_answer}
use Rattle.cluster_trace.specs.DataCall.{DataCall, as_message, BeginWrite, Packet, Finalize, Read, Decide, Commit}
use Rattle.cluster_trace.specs.Trace.{Cluster, ClusterOpening, Happened, start, with_new_node, new_node, event_lost, request_named, entry_of, node_called, called_at, leader_called, led_at, message_delivered, message_at, report_request, commit_request, is_from_outside, event_happened, left_by, after}
use Rattle.cluster_trace.specs.declared.event.Event.{Event}
use Rattle.cluster_trace.specs.declared.event.Event.TheVariants.{Name, Deliver, Data}
use Rattle.cluster_trace.specs.declared.outcome.ClusterRefusal.{ClusterRefusal}
use Rattle.cluster_trace.specs.declared.outcome.ClusterRefusal.TheVariants.{NoMessage, NoNode, NotFromOutside}
use Rattle.cluster_trace.proofs.Each.{each_append, each_more, each_map, each_get, some_is, never_some, AllValues, values_at, values_set, values_inserted}
use Rattle.cluster_trace.proofs.Keys.{Made, Brings, MessageBrings, after_made}
use Rattle.cluster_trace.proofs.Commands.{IsMade, stays_made, request_brings}

-- ---- what a DataNode sends brings no key

module _ (P : ℕ × List ℕ → Type 0) where
  forward_brings : (presented : Presented) (asked : List ℕ → TokenCall) (next : List ℕ) → AllByRecursion (MessageBrings P) (forward presented asked next)
  forward_brings presented asked [] = tt
  forward_brings presented asked (first ∷ next) = (tt, tt)

  primary_brings : (primary : Option ℕ) (told : ℕ → Message) → ((node : ℕ) → MessageBrings P (told node)) → AllByRecursion (MessageBrings P) (to_primary primary told)
  primary_brings None told h = tt
  primary_brings (Some primary) told h = (h primary, tt)

  sends_bring : (node : ℕ) (presented : Presented) (asked : TokenCall) (held : Held) → AllByRecursion (MessageBrings P) (call_sends node presented asked held)
  sends_bring node presented (call.Begin next) held = forward_brings presented call.Begin next
  sends_bring node presented (call.Packet offset bytes next) held = forward_brings presented (call.Packet offset bytes) next
  sends_bring node presented (call.Finalize count next) held =
      each_append (MessageBrings P) (forward presented (call.Finalize count) next) (message.Reported node presented.block presented.stamp count ∷ []) (forward_brings presented (call.Finalize count) next) (tt, tt)
  sends_bring node presented (call.Read offset count) held = tt
  sends_bring node presented call.InitRecovery held = primary_brings (node_of presented.caller) _ (λ primary. tt)
  sends_bring node presented (call.UpdateReplica count) held =
      each_append (MessageBrings P) (to_primary (node_of presented.caller) _) (message.Reported node presented.block presented.stamp count ∷ []) (primary_brings (node_of presented.caller) _ (λ primary. tt)) (tt, tt)
  sends_bring node presented (call.SendCopy to) held = (tt, tt)
  sends_bring node presented (call.TakeCopy bytes) held = (tt, tt)

  presented_brings : (node : DataNode) (clock : ℕ) (own : Presented) (asked : TokenCall) → AllByRecursion (MessageBrings P) (presented_answer node clock own asked).messages
  unfolding presented_answer
  presented_brings node clock own asked = by (call_refusal node clock own asked)
    where
      by : (refused : Option NodeRefusal) → AllByRecursion (MessageBrings P) (told_by node own asked refused).messages
      by (Some refusal) = tt
      by None = sends_bring node.id own asked (held_at own.block node.blocks)

  answer_brings : (node : DataNode) (now : ℕ) (asked : NodeCall) → AllByRecursion (MessageBrings P) (node_answer node now asked).messages
  unfolding node_answer
  answer_brings node now (Presenting own asked) = presented_brings node (clock_with node now) (asked_by node.id own asked) asked
  answer_brings node now (Keys update) = tt
  answer_brings node now (Invalidate block stamp) = by (removal_refusal stamp (held_at block node.blocks).replica)
    where
      by : (refused : Option ReplicaRefusal) → AllByRecursion (MessageBrings P) (removal_told refused).messages
      by (Some refusal) = tt
      by None = tt

  outside_brings : (node : ℕ) (asked : DataCall) → MessageBrings P (as_message node asked)
  outside_brings node (BeginWrite presented next) = tt
  outside_brings node (Packet presented offset bytes next) = tt
  outside_brings node (Finalize presented count next) = tt
  outside_brings node (Read presented offset count) = tt
  outside_brings node (Decide block stamp) = tt
  outside_brings node (Commit block stamp) = tt

  each_brings : (presented : Presented) (asked : TokenCall) (nodes : List ℕ) → AllByRecursion (MessageBrings P) (to_each presented asked nodes)
  each_brings presented asked nodes = each_map (MessageBrings P) (λ (node : ℕ). message.Node node (Presenting presented asked)) (λ (node : ℕ). tt) nodes

  plan_sends_bring : (leader : ℕ) (asked : PlanCall) (plans : PlanTable) → AllByRecursion (MessageBrings P) (plan_sends leader asked plans)
  plan_sends_bring leader (plan.Recover block stamp nodes token) plans = each_brings (presented_by_leader leader block stamp token) call.InitRecovery nodes
  plan_sends_bring leader (plan.Reply node block stamp state bytes) plans = tt
  plan_sends_bring leader (plan.Decide block stamp) plans =
      let own = plan_there block stamp plans in
      each_brings (presented_by_leader leader block stamp own.token) (call.UpdateReplica (decision_there own).length) (decision_there own).nodes
  plan_sends_bring leader (plan.Updated node block stamp) plans = tt
  plan_sends_bring leader (plan.Commit block stamp) plans = (tt, tt)

  plan_answer_brings : (leader : ℕ) (asked : PlanCall) (plans : PlanTable) → AllByRecursion (MessageBrings P) (plan_answer leader asked plans).messages
  unfolding plan_answer
  plan_answer_brings leader asked plans = by (plan_refusal asked plans)
    where
      by : (refused : Option PlanRefusal) → AllByRecursion (MessageBrings P) (told_unless leader asked plans refused).messages
      by (Some refusal) = tt
      by None = plan_sends_bring leader asked plans

-- ---- more keys

module _ (P Q : ℕ × List ℕ → Type 0) (more : (own : ℕ × List ℕ) → P own → Q own) where
  message_more : (own : Message) → MessageBrings P own → MessageBrings Q own
  message_more (message.Node node (Keys update)) made = each_more (λ (entry : ℕ × HeldKey). P (entry.0, entry.1.key)) (λ (entry : ℕ × HeldKey). Q (entry.0, entry.1.key)) (λ entry. more (entry.0, entry.1.key)) update made
  message_more (message.Node node (Presenting presented asked)) made = tt
  message_more (message.Node node (Invalidate block stamp)) made = tt
  message_more (message.Plan node asked) made = tt
  message_more (message.Reported node block stamp bytes) made = tt
  message_more (message.CommitRecovery node block stamp bytes nodes) made = tt

  nodes_more : (nodes : List (ℕ × DataNode)) → AllValues (λ (node : DataNode). Made P node.keys) nodes → AllValues (λ (node : DataNode). Made Q node.keys) nodes
  nodes_more nodes all =
      each_more (λ (entry : ℕ × DataNode). Made P entry.1.keys) (λ (entry : ℕ × DataNode). Made Q entry.1.keys)
      (λ entry. each_more (λ (own : ℕ × HeldKey). P (own.0, own.1.key)) (λ (own : ℕ × HeldKey). Q (own.0, own.1.key)) (λ own. more (own.0, own.1.key)) entry.1.keys) nodes all

-- ---- every event

abbrev pub MadeIn : Cluster → ℕ × List ℕ → Type 0
MadeIn state = IsMade (ring_of state.opening state.entries)

pub record IsSound (state : Cluster) : Type 0 where
  pub nodes : AllValues (λ (node : DataNode). Made (MadeIn state) node.keys) state.nodes
  pub messages : AllByRecursion (MessageBrings (MadeIn state)) state.messages

record Keeps (state : Cluster) (what : Happened) : Type 0 where
  nodes : AllValues (λ (node : DataNode). Made (IsMade (ring_of state.opening what.entries)) node.keys) what.nodes
  sent : AllByRecursion (MessageBrings (IsMade (ring_of state.opening what.entries))) what.sent
  more : (own : ℕ × List ℕ) → MadeIn state own → IsMade (ring_of state.opening what.entries) own

left_sound : (state : Cluster) (what : Happened) → IsSound state → Keeps state what → IsSound (left_by state what)
left_sound state what sound keeps = record {
  nodes = keeps.nodes;
  messages = each_append (MessageBrings (IsMade (ring_of state.opening what.entries))) state.messages what.sent
      (each_more (MessageBrings (MadeIn state)) (MessageBrings (IsMade (ring_of state.opening what.entries))) (message_more (MadeIn state) (IsMade (ring_of state.opening what.entries)) keeps.more) state.messages sound.messages)
      keeps.sent;
}

lost_keeps : (state : Cluster) (refusal : ClusterRefusal) → IsSound state → Keeps state (event_lost state refusal)
lost_keeps state refusal sound = record { nodes = sound.nodes; sent = tt; more = λ own i. i }

named_keeps : (state : Cluster) (request : Request) → IsSound state → Keeps state (request_named state request)
named_keeps state request sound =
    let P = MadeIn state in
    let Q : ℕ × List ℕ → Type 0 = IsMade (ring_of state.opening (entry_of state request ∷ state.entries)) in
    let more : (own : ℕ × List ℕ) → P own → Q own = stays_made state.opening (entry_of state request) state.entries in
    record {
      nodes = nodes_more P Q more state.nodes sound.nodes;
      sent = each_more (MessageBrings P) (MessageBrings Q) (message_more P Q more) (request_named state request).sent (request_brings state.opening state.entries request);
      more = more;
    }

called_keeps : (state : Cluster) (id now : ℕ) (asked : NodeCall) → IsSound state → Brings (MadeIn state) asked → Keeps state (node_called state id now asked)
called_keeps state id now asked sound brings = by (entry_at id state.nodes) refl
  where
    by : (found : Option DataNode) → entry_at id state.nodes ≡ found → Keeps state (called_at state id now asked found)
    by None e = lost_keeps state NoNode sound
    by (Some node) e = record {
      nodes = values_set (λ (own : DataNode). Made (MadeIn state) own.keys) state.nodes id (node_after node now asked) sound.nodes
          (after_made (MadeIn state) node now asked (values_at (λ (own : DataNode). Made (MadeIn state) own.keys) state.nodes id node sound.nodes e) brings);
      sent = answer_brings (MadeIn state) node now asked;
      more = λ own i. i;
    }

led_keeps : (state : Cluster) (id : ℕ) (asked : PlanCall) → IsSound state → Keeps state (leader_called state id asked)
led_keeps state id asked sound = by (entry_at id state.plans)
  where
    by : (found : Option PlanTable) → Keeps state (led_at state id asked found)
    by None = lost_keeps state NoNode sound
    by (Some plans) = record { nodes = sound.nodes; sent = plan_answer_brings (MadeIn state) id asked plans; more = λ own i. i }

pub message_brings : (P : Message → Type 0) (messages : List Message) (number : ℕ) (own : Message) → AllByRecursion P messages → message_at number messages ≡ Some own → P own
message_brings P messages zero own all e = absurd (never_some own e)
message_brings P messages (suc before) own all e = each_get P messages before own all e

delivered_keeps : (state : Cluster) (now : ℕ) (found : Option Message) → IsSound state → ((own : Message) → found ≡ Some own → MessageBrings (MadeIn state) own) → Keeps state (message_delivered state now found)
delivered_keeps state now None sound brings = lost_keeps state NoMessage sound
delivered_keeps state now (Some (message.Node node asked)) sound brings = called_keeps state node now asked sound (brings (message.Node node asked) refl)
delivered_keeps state now (Some (message.Plan node asked)) sound brings = led_keeps state node asked sound
delivered_keeps state now (Some (message.Reported node block stamp bytes)) sound brings = named_keeps state (report_request node now block stamp bytes) sound
delivered_keeps state now (Some (message.CommitRecovery node block stamp bytes nodes)) sound brings = named_keeps state (commit_request node now block stamp bytes nodes) sound

event_keeps : (state : Cluster) (event : Event) → IsSound state → Keeps state (event_happened state event)
event_keeps state (Name request) sound = by (is_from_outside request.op)
  where
    by : (b : Bool) → Keeps state (cond b (request_named state request) (event_lost state NotFromOutside))
    by true = named_keeps state request sound
    by false = lost_keeps state NotFromOutside sound
event_keeps state (Deliver number now) sound = delivered_keeps state now (message_at number state.messages) sound (λ own e. message_brings (MessageBrings (MadeIn state)) state.messages number own sound.messages e)
event_keeps state (Data node now asked) sound =
    let own : Message = as_message node asked in
    delivered_keeps state now (Some own) sound (λ other e. subst (MessageBrings (MadeIn state)) (some_is own other e) (outside_brings (MadeIn state) node asked))

start_nodes : (P : ℕ × List ℕ → Type 0) (limit : ℕ) (ids : List ℕ) (nodes : List (ℕ × DataNode)) → AllValues (λ (node : DataNode). Made P node.keys) nodes
    → AllValues (λ (node : DataNode). Made P node.keys) (fold (with_new_node limit) nodes ids)
start_nodes P limit [] nodes all = all
start_nodes P limit (id ∷ ids) nodes all =
    start_nodes P limit ids (with_new_node limit nodes id) (values_inserted (λ (node : DataNode). Made P node.keys) nodes id (new_node limit id) all tt)

pub sound : (opening : ClusterOpening) (events : List Event) → IsSound (after opening events)
sound opening [] = record { nodes = start_nodes (MadeIn (start opening)) opening.name.config.replica_limit opening.nodes [] tt; messages = tt }
sound opening (event ∷ earlier) = left_sound (after opening earlier) (event_happened (after opening earlier) event) (sound opening earlier) (event_keeps (after opening earlier) event (sound opening earlier))
