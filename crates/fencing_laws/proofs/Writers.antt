-- A DataNode that has let a recovery begin takes no packet of an older stamp.
use Rattle.std.proofs.Common.{◌≡◌, ℕ, ◌≤◌, ◌∷◌, ◌++◌, Option, Some, None, Result, Ok, Err, unwrap_or, refl, sym, ap, ◌∙◌, subst, cond, arith}
use Rattle.std.specs.Map.{set_value}
use Rattle.block_records.specs.Numbers.{is_number, entry_at}
use Rattle.block_recovery.proofs.Tables.{itself}
use Rattle.block_tokens.specs.TokenTest.{token_test}
use Rattle.node_calls.specs.declared.call.NodeCall.{NodeCall}
use Rattle.node_calls.specs.declared.call.NodeCall.TheVariants.{Presenting}
use Rattle.node_calls.specs.declared.call.TokenCall.TheVariants as call
use Rattle.node_calls.specs.declared.message.Message.{Message}
use Rattle.node_calls.specs.declared.message.Message.TheVariants as message
use Rattle.call_parts.specs.declared.presented.Presented.{Presented}
use Rattle.node_calls.specs.declared.refusal.NodeRefusal.{NodeRefusal}
use Rattle.node_calls.specs.declared.refusal.ReplicaRefusal.TheVariants.{NoReplica}
use Rattle.node_calls.specs.declared.reply.NodeReply.{NodeReply}
use Rattle.replica_steps.specs.ReplicaStep.{Replicas, nothing, held_at, replica_refusal, with_promise, held_changed_by}
use Rattle.replica_steps.specs.declared.held.Held.{Held}
use Rattle.datanode.specs.NodeStep.{DataNode, node_after, node_answer, presented_after, presented_answer, presented_by, told_by, clock_with, call_refusal, access_of}
use Rattle.datanode.proofs.Nodes.{replica_passes}
use Rattle.datanode.proofs.Records.{fenced}
use Rattle.datanode.proofs.Steps.{never}
use Rattle.cluster_trace.specs.DataCall.{as_message}
use Rattle.cluster_trace.specs.Provenance.{CallAt, call_brought, call_of}
use Rattle.cluster_trace.specs.Trace.{Cluster, Happened, node_called, called_at, message_delivered, message_at, event_happened, after}
use Rattle.cluster_trace.specs.declared.event.Event.{Event}
use Rattle.cluster_trace.specs.declared.event.Event.TheVariants.{Name, Deliver, Data}
use Rattle.cluster_trace.specs.declared.outcome.ClusterRefusal.TheVariants.{NoNode}
use Rattle.cluster_trace.specs.declared.outcome.EventAnswer.TheVariants.{Called, Lost}
use Rattle.cluster_trace.proofs.Each.{some_is, never_some}
use Rattle.fencing_laws.specs.Fencing.{OldWritersAreFenced}
use Rattle.fencing_laws.proofs.Behind.{Holds, later_holds, set_there}
use Rattle.fencing_laws.proofs.Promises.{HasPromised, promise_stays}

-- ---- what happens where a call is asked is that call

abbrev called_with : Cluster → CallAt → Happened
called_with state asked = node_called state asked.node asked.now asked.call

delivered_call : (state : Cluster) (now : ℕ) (found : Option Message) (asked : CallAt) → call_brought now found ≡ Some asked → message_delivered state now found ≡ called_with state asked
delivered_call state now None asked e = absurd (never_some asked e)
delivered_call state now (Some (message.Node node own)) asked e =
    let at : CallAt = record { node = node; now = now; call = own } in
    ap (called_with state) (some_is at asked e)
delivered_call state now (Some (message.Plan node own)) asked e = absurd (never_some asked e)
delivered_call state now (Some (message.Reported node block stamp bytes)) asked e = absurd (never_some asked e)
delivered_call state now (Some (message.CommitRecovery node block stamp bytes nodes)) asked e = absurd (never_some asked e)

pub event_call : (state : Cluster) (event : Event) (asked : CallAt) → call_of state event ≡ Some asked → event_happened state event ≡ called_with state asked
event_call state (Name request) asked e = absurd (never_some asked e)
event_call state (Deliver number now) asked e = delivered_call state now (message_at number state.messages) asked e
event_call state (Data node now own) asked e = delivered_call state now (Some (as_message node own)) asked e

-- ---- a call that is served

lost_serves : (told : NodeReply) → Lost NoNode ≡ Called (Ok told) → ⊥
lost_serves told e = cc

called_is : (result other : Result NodeReply NodeRefusal) → Called result ≡ Called other → result ≡ other
called_is result other e = cc

-- the DataNode that serves it
pub record ServedBy (state : Cluster) (what : Happened) (node now : ℕ) (asked : NodeCall) (told : NodeReply) : Type 0 where
  pub own : DataNode
  pub there : entry_at node state.nodes ≡ Some own
  pub answer : (node_answer own now asked).result ≡ Ok told
  pub nodes : what.nodes ≡ set_value (is_number node) state.nodes (node_after own now asked)

served_at : (state : Cluster) (node now : ℕ) (asked : NodeCall) (told : NodeReply) (found : Option DataNode) → entry_at node state.nodes ≡ found → (called_at state node now asked found).answer ≡ Called (Ok told)
    → ServedBy state (called_at state node now asked found) node now asked told
served_at state node now asked told None at e = absurd (lost_serves told e)
served_at state node now asked told (Some own) at e = record { own = own; there = at; answer = called_is (node_answer own now asked).result (Ok told) e; nodes = refl }

pub served_by : (state : Cluster) (event : Event) (node now : ℕ) (asked : NodeCall) (told : NodeReply) → call_of state event ≡ Some (record { node = node; now = now; call = asked })
    → (event_happened state event).answer ≡ Called (Ok told) → ServedBy state (event_happened state event) node now asked told
served_by state event node now asked told asks served =
    let is : event_happened state event ≡ node_called state node now asked = event_call state event (record { node = node; now = now; call = asked }) asks in
    subst (λ (what : Happened). ServedBy state what node now asked told) (sym is)
    (served_at state node now asked told (entry_at node state.nodes) refl (sym (ap (λ (what : Happened). what.answer) is) ∙ served))

-- ---- a recovery that begins

err_ok : (told : NodeReply) (refusal : NodeRefusal) → Err refusal ≡ Ok told → ⊥
err_ok told refusal e = cc

promised_at : (block stamp : ℕ) (blocks : Replicas) (limit : ℕ) → replica_refusal limit call.InitRecovery stamp (held_at block blocks) ≡ None
    → (held_at block (held_changed_by (with_promise stamp) block (entry_at block blocks) blocks)).promised ≡ stamp
promised_at block stamp blocks limit e = by (entry_at block blocks) refl e
  where
    by : (found : Option Held) → entry_at block blocks ≡ found → replica_refusal limit call.InitRecovery stamp (unwrap_or found nothing) ≡ None → (held_at block (held_changed_by (with_promise stamp) block found blocks)).promised ≡ stamp
    by None at h = absurd (never NoReplica h)
    by (Some old) at h =
        ap (λ found. (unwrap_or found nothing).promised) (set_there block block old (with_promise stamp old) blocks at)
        ∙ ap (λ b. (unwrap_or (cond b (Some (with_promise stamp old)) (entry_at block blocks)) nothing).promised) (itself block)

begins_at : (node : DataNode) (clock : ℕ) (own : Presented) (told : NodeReply) → (presented_answer node clock own call.InitRecovery).result ≡ Ok told
    → (held_at own.block (presented_after node clock own call.InitRecovery).blocks).promised ≡ own.stamp
unfolding presented_answer presented_after
begins_at node clock own told served = by (call_refusal node clock own call.InitRecovery) refl served
  where
    by : (refused : Option NodeRefusal) → call_refusal node clock own call.InitRecovery ≡ refused → (told_by node own call.InitRecovery refused).result ≡ Ok told
        → (held_at own.block (presented_by node clock own call.InitRecovery refused).blocks).promised ≡ own.stamp
    by (Some refusal) e h = absurd (err_ok told refusal h)
    by None e h = promised_at own.block own.stamp node.blocks node.limit (replica_passes (token_test node.keys (access_of clock own call.InitRecovery) own.token) (replica_refusal node.limit call.InitRecovery own.stamp (held_at own.block node.blocks)) e)

begun_at : (node : DataNode) (now : ℕ) (own : Presented) (told : NodeReply) → (node_answer node now (Presenting own call.InitRecovery)).result ≡ Ok told
    → (held_at own.block (node_after node now (Presenting own call.InitRecovery)).blocks).promised ≡ own.stamp
unfolding node_answer node_after
begun_at node now own told served = begins_at node (clock_with node now) own told served

-- ---- and later packets

pub fenced_later : OldWritersAreFenced
fenced_later opening later earlier first last node offset begun presented bytes next same serves writes =
    let state = after opening earlier in
    let later_state = after opening (later ++ first ∷ earlier) in
    let a = served_by state first node serves.now (Presenting begun call.InitRecovery) serves.told serves.asks serves.served in
    let b = served_by later_state last node writes.now (Presenting presented (call.Packet offset bytes next)) writes.told writes.asks writes.served in
    let floor : presented.stamp ≡ (held_at presented.block b.own.blocks).promised = fenced b.own writes.now offset presented bytes next writes.told b.answer in
    let low : begun.stamp ≤ (held_at begun.block b.own.blocks).promised =
    later_holds node (HasPromised begun.stamp begun.block) (promise_stays begun.stamp begun.block) opening later (first ∷ earlier) (promised a) b.own b.there in
    let there : begun.stamp ≤ (held_at presented.block b.own.blocks).promised = subst (λ (block : ℕ). begun.stamp ≤ (held_at block b.own.blocks).promised) same low in
    omega (arith, floor, there)
  where
    promised : ServedBy (after opening earlier) (event_happened (after opening earlier) first) node serves.now (Presenting begun call.InitRecovery) serves.told
        → Holds node (HasPromised begun.stamp begun.block) (promise_stays begun.stamp begun.block) (after opening (first ∷ earlier)).nodes
    promised a own e =
        let left = node_after a.own serves.now (Presenting begun call.InitRecovery) in
        let found : Some left ≡ Some own =
        sym (ap (entry_at node) a.nodes ∙ set_there node node a.own left (after opening earlier).nodes a.there ∙ ap (λ b. cond b (Some left) (entry_at node (after opening earlier).nodes)) (itself node)) ∙ e in
        let stamp : (held_at begun.block left.blocks).promised ≡ begun.stamp = begun_at a.own serves.now begun serves.told a.answer in
        subst (λ (one : DataNode). begun.stamp ≤ (held_at begun.block one.blocks).promised) (some_is left own found) (omega (arith, stamp))
