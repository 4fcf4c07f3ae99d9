-- What each event leaves of the first bytes of a replica.
use Rattle.std.proofs.Common.{◌≡◌, ℕ, ◌≤◌, Bool, true, false, inl, inr, List, [], ◌∷◌, fold, take, length, Option, Some, None, Ok, refl, sym, ap, ◌∙◌, subst, cond}
use Rattle.std.specs.Prelude.{option_map}
use Rattle.std.specs.Option.{option_and_then}
use Rattle.block_records.specs.Numbers.{is_number, entry_at}
use Rattle.block_records.proofs.Numbers.{number_is}
use Rattle.block_recovery.proofs.Lookups.{lookup_inserted}
use Rattle.node_calls.specs.declared.call.NodeCall.{NodeCall}
use Rattle.node_calls.specs.declared.call.NodeCall.TheVariants.{Presenting, Invalidate, Keys}
use Rattle.node_calls.specs.declared.call.TokenCall.{TokenCall}
use Rattle.node_calls.specs.declared.call.TokenCall.TheVariants as call
use Rattle.call_parts.specs.declared.presented.Presented.{Presented}
use Rattle.node_calls.specs.declared.refusal.NodeRefusal.{NodeRefusal}
use Rattle.node_calls.specs.declared.refusal.ReplicaRefusal.{ReplicaRefusal}
use Rattle.node_calls.specs.declared.reply.NodeReply.{NodeReply}
use Rattle.replicas.specs.Asking.{asked_by}
use Rattle.replica_steps.specs.ReplicaStep.{held_at, removal_refusal}
use Rattle.replica_steps.specs.declared.held.Held.{Held}
use Rattle.replica_steps.specs.declared.replica.Replica.{Replica}
use Rattle.datanode.specs.NodeStep.{DataNode, node_after, node_answer, presented_after, presented_by, removed_by, clock_with, call_refusal}
use Rattle.cluster_trace.specs.Provenance.{call_of}
use Rattle.cluster_trace.specs.Trace.{Cluster, ClusterOpening, Happened, new_node, with_new_node, event_happened, after}
use Rattle.cluster_trace.specs.declared.event.Event.{Event}
use Rattle.cluster_trace.specs.declared.outcome.EventAnswer.TheVariants.{Called}
use Rattle.cluster_trace.proofs.Each.{some_is, never_some}
use Rattle.fencing_laws.specs.Fencing.{Serves}
use Rattle.fencing_laws.proofs.Behind.{set_there}
use Rattle.kept_bytes_laws.specs.KeptBytes.{replica_in, Removes}
use Rattle.kept_bytes_laws.proofs.Fronts.{Begins, node_keeps}
use Rattle.kept_bytes_laws.proofs.Sent.{Calls, Does, does}

-- ---- a DataNode that has a replica

pub record HasFront (state : Cluster) (node block bytes : ℕ) (front : List ℕ) : Type 0 where
  pub own : DataNode
  pub there : entry_at node state.nodes ≡ Some own
  pub begins : Begins block bytes front (held_at block own.blocks)

pub has_front : (state : Cluster) (node block bytes : ℕ) (front : List ℕ) (replica : Replica) → replica_in state node block ≡ Some replica → bytes ≤ length replica.bytes → take bytes replica.bytes ≡ front
    → HasFront state node block bytes front
has_front state node block bytes front replica there enough begins = by (entry_at node state.nodes) refl there
  where
    by : (found : Option DataNode) → entry_at node state.nodes ≡ found → option_and_then (λ (held : Held). held.replica) (option_map (λ (own : DataNode). held_at block own.blocks) found) ≡ Some replica
        → HasFront state node block bytes front
    by None e h = absurd (never_some replica h)
    by (Some own) e h = record { own = own; there = e; begins = record { replica = replica; there = h; enough = enough; first = begins } }

pub front_is : (state : Cluster) (node block bytes : ℕ) (front : List ℕ) → HasFront state node block bytes front
    → (replica : Replica) × (replica_in state node block ≡ Some replica) × (take bytes replica.bytes ≡ front)
front_is state node block bytes front has = (
  has.begins.replica,
  ap (λ (found : Option DataNode). option_and_then (λ (held : Held). held.replica) (option_map (λ (own : DataNode). held_at block own.blocks) found)) has.there ∙ has.begins.there,
  has.begins.first,
)

-- ---- one event

pub served_at : (state : Cluster) (event : Event) (own : Calls state (call_of state event) (event_happened state event)) (node : ℕ) (call : NodeCall) → own.id ≡ node → own.called ≡ call
    → call_of state event ≡ Some (record { node = node; now = own.now; call = call })
served_at state event own node called same is =
    own.asks ∙ (ap (λ (n : ℕ). Some (record { node = n; now = own.now; call = own.called })) same ∙ ap (λ (c : NodeCall). Some (record { node = node; now = own.now; call = c })) is)

pub answered_at : (state : Cluster) (event : Event) (own : Calls state (call_of state event) (event_happened state event)) (told : NodeReply) → (node_answer own.node own.now own.called).result ≡ Ok told
    → (event_happened state event).answer ≡ Called (Ok told)
answered_at state event own told e = ap (λ (what : Happened). what.answer) own.is ∙ ap Called e

module _ (opening : ClusterOpening) (earlier : List Event) (event : Event) (node block bytes : ℕ) (front : List ℕ) where
  abbrev state : Cluster
  state = after opening earlier

  pub event_keeps : ((presented : Presented) (count : ℕ) → Serves opening earlier event node presented (call.UpdateReplica count) → presented.block ≡ block → bytes ≤ count)
      → (Removes opening earlier event node block → ⊥) → HasFront (after opening earlier) node block bytes front → HasFront (after opening (event ∷ earlier)) node block bytes front
  event_keeps updates removes has = by (does (after opening earlier) event)
    where
      what : Happened
      what = event_happened (after opening earlier) event

      kept : (own : Calls state (call_of state event) what) → own.id ≡ node → Begins block bytes front (held_at block (node_after own.node own.now own.called).blocks)
      kept own same =
          let is : has.own ≡ own.node = some_is has.own own.node (sym has.there ∙ (ap (λ (n : ℕ). entry_at n state.nodes) (sym same) ∙ own.there)) in
          node_keeps block bytes front own.node own.now own.called
          (λ presented count told asked here answer.
          updates presented count (record { now = own.now; told = told; asks = served_at state event own node (Presenting presented (call.UpdateReplica count)) same asked; served = answered_at state event own told answer }) here)
          (λ stamp told asked answer.
          removes (record { now = own.now; stamp = stamp; told = told; asks = served_at state event own node (Invalidate block stamp) same asked; done = answered_at state event own told answer }))
          (subst (λ (one : DataNode). Begins block bytes front (held_at block one.blocks)) is has.begins)

      found : (own : Calls state (call_of state event) what) (b : Bool) → is_number own.id node ≡ b
          → (one : DataNode) × (cond b (Some (node_after own.node own.now own.called)) (entry_at node state.nodes) ≡ Some one) × Begins block bytes front (held_at block one.blocks)
      found own true at = (node_after own.node own.now own.called, refl, kept own (number_is own.id node at))
      found own false at = (has.own, has.there, has.begins)

      by : Does state (call_of state event) what → HasFront (after opening (event ∷ earlier)) node block bytes front
      by (inl own) = record { own = has.own; there = ap (λ (w : Happened). entry_at node w.nodes) own.is ∙ has.there; begins = has.begins }
      by (inr (inl own)) =
          let one = found own (is_number own.id node) refl in
          record {
            own = one.0;
            there = ap (λ (w : Happened). entry_at node w.nodes) own.is ∙ (set_there own.id node own.node (node_after own.node own.now own.called) state.nodes own.there ∙ one.1);
            begins = one.2;
          }
      by (inr (inr (inl own))) = record { own = has.own; there = ap (λ (w : Happened). entry_at node w.nodes) own.is ∙ has.there; begins = has.begins }
      by (inr (inr (inr own))) = record { own = has.own; there = ap (λ (w : Happened). entry_at node w.nodes) own.is ∙ has.there; begins = has.begins }

-- ---- ids

-- each DataNode stands at its id
abbrev pub StandAtIds : List (ℕ × DataNode) → Type 0
StandAtIds nodes = (id : ℕ) (own : DataNode) → entry_at id nodes ≡ Some own → own.id ≡ id

presented_id : (node : DataNode) (clock : ℕ) (own : Presented) (asked : TokenCall) → (presented_after node clock own asked).id ≡ node.id
unfolding presented_after
presented_id node clock own asked = by (call_refusal node clock own asked)
  where
    by : (refused : Option NodeRefusal) → (presented_by node clock own asked refused).id ≡ node.id
    by (Some refusal) = refl
    by None = refl

same_id : (node : DataNode) (now : ℕ) (asked : NodeCall) → (node_after node now asked).id ≡ node.id
unfolding node_after
same_id node now (Presenting presented asked) = presented_id node (clock_with node now) (asked_by node.id presented asked) asked
same_id node now (Keys update) = refl
same_id node now (Invalidate block stamp) = by (removal_refusal stamp (held_at block node.blocks).replica)
  where
    by : (refused : Option ReplicaRefusal) → (removed_by node block refused).id ≡ node.id
    by (Some refusal) = refl
    by None = refl

start_ids : (limit : ℕ) (ids : List ℕ) (nodes : List (ℕ × DataNode)) → StandAtIds nodes → StandAtIds (fold (with_new_node limit) nodes ids)
start_ids limit [] nodes all = all
start_ids limit (id ∷ ids) nodes all = start_ids limit ids (with_new_node limit nodes id) (λ q own there. by q own (is_number q id) refl (sym (lookup_inserted id q (new_node limit id) nodes) ∙ there))
  where
    by : (q : ℕ) (own : DataNode) (b : Bool) → is_number q id ≡ b → cond b (Some (new_node limit id)) (entry_at q nodes) ≡ Some own → own.id ≡ q
    by q own true at h = sym (ap (λ (one : DataNode). one.id) (some_is (new_node limit id) own h)) ∙ sym (number_is q id at)
    by q own false at h = all q own h

event_ids : (state : Cluster) (event : Event) → StandAtIds state.nodes → StandAtIds (event_happened state event).nodes
event_ids state event before = by (does state event)
  where
    set : (own : Calls state (call_of state event) (event_happened state event)) (q : ℕ) (one : DataNode) (b : Bool) → is_number own.id q ≡ b
        → cond b (Some (node_after own.node own.now own.called)) (entry_at q state.nodes) ≡ Some one → one.id ≡ q
    set own q one true at h =
        sym (ap (λ (n : DataNode). n.id) (some_is (node_after own.node own.now own.called) one h)) ∙ (same_id own.node own.now own.called ∙ (before own.id own.node own.there ∙ number_is own.id q at))
    set own q one false at h = before q one h

    by : Does state (call_of state event) (event_happened state event) → StandAtIds (event_happened state event).nodes
    by (inl own) = subst (λ (what : Happened). StandAtIds what.nodes) (sym own.is) before
    by (inr (inl own)) = λ q one there.
        set own q one (is_number own.id q) refl (sym (ap (λ (what : Happened). entry_at q what.nodes) own.is ∙ set_there own.id q own.node (node_after own.node own.now own.called) state.nodes own.there) ∙ there)
    by (inr (inr (inl own))) = subst (λ (what : Happened). StandAtIds what.nodes) (sym own.is) before
    by (inr (inr (inr own))) = subst (λ (what : Happened). StandAtIds what.nodes) (sym own.is) before

pub ids_stand : (opening : ClusterOpening) (events : List Event) → StandAtIds (after opening events).nodes
ids_stand opening [] = start_ids opening.name.config.replica_limit opening.nodes [] (λ id own there. absurd (never_some own there))
ids_stand opening (event ∷ earlier) = event_ids (after opening earlier) event (ids_stand opening earlier)
