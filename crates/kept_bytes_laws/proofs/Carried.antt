-- Over every list of events, DataNodes tell the leading node of replicas that they had when they let a recovery begin, and when they were updated.
use Rattle.std.proofs.Common.{◌≡◌, ℕ, List, [], ◌∷◌, length, Option, Some, None, Ok, Err, unwrap_or, refl, sym, ap, ◌∙◌, subst, cond}
use Rattle.std.specs.Prelude.{option_map}
use Rattle.std.specs.Bool.{⊤}
use Rattle.std.specs.List.{AllByRecursion}
use Rattle.std.specs.Option.{option_and_then}
use Rattle.block_records.specs.Numbers.{entry_at}
use Rattle.block_recovery.proofs.Tables.{itself}
use Rattle.block_tokens.specs.TokenTest.{token_test}
use Rattle.datanode.proofs.Nodes.{replica_passes}
use Rattle.datanode.proofs.Steps.{never}
use Rattle.block_answers.specs.declared.commands.Recover.{Recover}
use Rattle.node_calls.specs.declared.call.NodeCall.{NodeCall}
use Rattle.node_calls.specs.declared.call.NodeCall.TheVariants.{Presenting}
use Rattle.node_calls.specs.declared.call.PlanCall.{PlanCall}
use Rattle.node_calls.specs.declared.call.PlanCall.TheVariants as plan
use Rattle.node_calls.specs.declared.call.ReplicaState.{ReplicaState}
use Rattle.node_calls.specs.declared.call.ReplicaState.TheVariants.{Writing}
use Rattle.node_calls.specs.declared.call.TokenCall.{TokenCall}
use Rattle.node_calls.specs.declared.call.TokenCall.TheVariants as call
use Rattle.node_calls.specs.declared.message.Message.{Message}
use Rattle.node_calls.specs.declared.message.Message.TheVariants as message
use Rattle.call_parts.specs.declared.presented.Presented.{Presented}
use Rattle.node_calls.specs.declared.refusal.NodeRefusal.{NodeRefusal}
use Rattle.node_calls.specs.declared.refusal.ReplicaRefusal.TheVariants.{NoReplica}
use Rattle.node_calls.specs.declared.reply.NodeReply.{NodeReply}
use Rattle.replicas.specs.Asking.{asked_by}
use Rattle.replicas.specs.Sending.{call_reply}
use Rattle.replica_steps.specs.ReplicaStep as step
use Rattle.replica_steps.specs.ReplicaStep.{held_at, replica_refusal, replicas_after}
use Rattle.replica_steps.specs.declared.held.Held.{Held}
use Rattle.replica_steps.specs.declared.replica.Replica.{Replica}
use Rattle.datanode.specs.NodeStep.{DataNode, node_after, node_answer, presented_answer, told_by, clock_with, call_refusal, access_of}
use Rattle.cluster_trace.specs.Provenance.{call_of}
use Rattle.cluster_trace.specs.Trace.{ClusterOpening, Happened, called_at, event_happened, after}
use Rattle.cluster_trace.specs.declared.event.Event.{Event}
use Rattle.cluster_trace.proofs.Each.{each_append, each_more}
use Rattle.cluster_trace.proofs.Sound.{message_brings}
use Rattle.fencing_laws.specs.Fencing.{Serves}
use Rattle.fencing_laws.proofs.Behind.{set_there}
use Rattle.fencing_laws.proofs.Writers.{event_call, served_by}
use Rattle.kept_bytes_laws.proofs.Fronts.{asked_block, served_answer}
use Rattle.kept_bytes_laws.proofs.Held.{IsFinal, update_leaves}
use Rattle.kept_bytes_laws.proofs.Sent.{Calls, event_sends, entry_sends}
use Rattle.kept_bytes_laws.proofs.Told.{blocks_left, asked_stamp}
use Rattle.kept_bytes_laws.proofs.Since.{served_at, answered_at, ids_stand}
use Rattle.kept_bytes_laws.specs.Carried.{HasAnswered, HasUpdated, HasFinalized, AnswersAreHeld, UpdatesSetTheLength}

-- ---- a call that is served

-- a recovery begins of a replica that is there
begins : (limit stamp promised : ℕ) (found : Option Replica) → replica_refusal limit call.InitRecovery stamp (record { replica = found; promised = promised }) ≡ None → (replica : Replica) × (found ≡ Some replica)
begins limit stamp promised None e = absurd (never NoReplica e)
begins limit stamp promised (Some replica) e = (replica, refl)

-- ---- messages

-- what a leading node is told was held, and updated to some length
abbrev pub PlanCarries : ClusterOpening → List Event → PlanCall → Type 0
PlanCarries opening events (plan.Recover block stamp nodes token) = ⊤
PlanCarries opening events (plan.Reply node block stamp state count) = HasAnswered opening events node block stamp state count
PlanCarries opening events (plan.Decide block stamp) = ⊤
PlanCarries opening events (plan.Updated node block stamp) = (count : ℕ) × HasUpdated opening events node block stamp count
PlanCarries opening events (plan.Commit block stamp) = ⊤

abbrev pub CarriesHeld : ClusterOpening → List Event → Message → Type 0
CarriesHeld opening events (message.Node to asked) = ⊤
CarriesHeld opening events (message.Plan to asked) = PlanCarries opening events asked
CarriesHeld opening events (message.Reported node block stamp count) = ⊤
CarriesHeld opening events (message.CommitRecovery leader block stamp count nodes) = ⊤

module _ (opening : ClusterOpening) (event : Event) (earlier : List Event) where
  -- ---- what was held before

  answered_later : (node block stamp : ℕ) (state : ReplicaState) (count : ℕ) → HasAnswered opening earlier node block stamp state count → HasAnswered opening (event ∷ earlier) node block stamp state count
  answered_later node block stamp state count h = record {
    later = event ∷ h.later;
    earlier = h.earlier;
    event = h.event;
    presented = h.presented;
    replica = h.replica;
    all = ap (λ (l : List Event). event ∷ l) h.all;
    serves = h.serves;
    of_block = h.of_block;
    at_stamp = h.at_stamp;
    there = h.there;
    in_state = h.in_state;
    long = h.long;
  }

  updated_later : (node block stamp count : ℕ) → HasUpdated opening earlier node block stamp count → HasUpdated opening (event ∷ earlier) node block stamp count
  updated_later node block stamp count h = record {
    later = event ∷ h.later;
    earlier = h.earlier;
    event = h.event;
    presented = h.presented;
    replica = h.replica;
    all = ap (λ (l : List Event). event ∷ l) h.all;
    serves = h.serves;
    of_block = h.of_block;
    at_stamp = h.at_stamp;
    there = h.there;
    stamped = h.stamped;
    finalized = h.finalized;
    long = h.long;
  }

  plan_later : (asked : PlanCall) → PlanCarries opening earlier asked → PlanCarries opening (event ∷ earlier) asked
  plan_later (plan.Recover block stamp nodes token) h = tt
  plan_later (plan.Reply node block stamp state count) h = answered_later node block stamp state count h
  plan_later (plan.Decide block stamp) h = tt
  plan_later (plan.Updated node block stamp) h = (h.0, updated_later node block stamp h.0 h.1)
  plan_later (plan.Commit block stamp) h = tt

  message_later : (own : Message) → CarriesHeld opening earlier own → CarriesHeld opening (event ∷ earlier) own
  message_later (message.Node to asked) h = tt
  message_later (message.Plan to asked) h = plan_later asked h
  message_later (message.Reported node block stamp count) h = tt
  message_later (message.CommitRecovery leader block stamp count nodes) h = tt

  -- ---- what is held now

  module _ (own : Calls (after opening earlier) (call_of (after opening earlier) event) (event_happened (after opening earlier) event)) (presented : Presented) (asked : TokenCall) (is : own.called ≡ Presenting presented asked)
      (allowed : call_refusal own.node (clock_with own.node own.now) (asked_by own.node.id presented asked) asked ≡ None) where
    abbrev with_token : Presented
    with_token = asked_by own.node.id presented asked

    abbrev held : Held
    held = held_at with_token.block own.node.blocks

    passes : (what : TokenCall) → asked ≡ what → replica_refusal own.node.limit what with_token.stamp held ≡ None
    passes what e =
        subst (λ (c : TokenCall). replica_refusal own.node.limit c with_token.stamp held ≡ None) e
        (replica_passes (token_test own.node.keys (access_of (clock_with own.node own.now) with_token asked) with_token.token) (replica_refusal own.node.limit asked with_token.stamp held) allowed)

    at_id : own.node.id ≡ own.id
    at_id = ids_stand opening earlier own.id own.node own.there

    served : (what : TokenCall) → asked ≡ what → Serves opening earlier event own.node.id presented what
    served what e = record {
      now = own.now;
      told = call_reply asked held;
      asks = served_at (after opening earlier) event own own.node.id (Presenting presented what) (sym at_id) (is ∙ ap (Presenting presented) e);
      served = answered_at (after opening earlier) event own (call_reply asked held) (ap (λ (c : NodeCall). (node_answer own.node own.now c).result) is ∙ served_answer own.node own.now presented asked allowed);
    }

    -- the node's replica
    in_node : (found : Option DataNode) (one : DataNode) (replica : Replica) → found ≡ Some one → (held_at with_token.block one.blocks).replica ≡ Some replica
        → option_and_then (λ (kept : Held). kept.replica) (option_map (λ (it : DataNode). held_at with_token.block it.blocks) found) ≡ Some replica
    in_node found one replica e there = ap (λ (at : Option DataNode). option_and_then (λ (kept : Held). kept.replica) (option_map (λ (it : DataNode). held_at with_token.block it.blocks) at)) e ∙ there

    answers : asked ≡ call.InitRecovery → HasAnswered opening (event ∷ earlier) own.node.id with_token.block with_token.stamp (step.own held).state (length (step.own held).bytes)
    answers e =
        let found = begins own.node.limit with_token.stamp held.promised held.replica (passes call.InitRecovery e) in
        record {
          later = [];
          earlier = earlier;
          event = event;
          presented = presented;
          replica = found.0;
          all = refl;
          serves = served call.InitRecovery e;
          of_block = sym (asked_block own.node.id presented asked);
          at_stamp = sym (asked_stamp own.node.id presented asked);
          there = in_node (entry_at own.node.id (after opening earlier).nodes) own.node found.0 (ap (λ n. entry_at n (after opening earlier).nodes) at_id ∙ own.there) found.1;
          in_state = ap (λ (kept : Option Replica). (unwrap_or kept (record { stamp = 0; state = Writing; bytes = [] })).state) (sym found.1);
          long = ap (λ (kept : Option Replica). length (unwrap_or kept (record { stamp = 0; state = Writing; bytes = [] })).bytes) (sym found.1);
        }

    left : (node_after own.node own.now own.called).blocks ≡ replicas_after asked with_token.stamp with_token.block own.node.blocks
    left = ap (λ (c : NodeCall). (node_after own.node own.now c).blocks) is ∙ blocks_left own.node own.now presented asked allowed

    node_left : entry_at own.node.id (after opening (event ∷ earlier)).nodes ≡ Some (node_after own.node own.now own.called)
    node_left =
        ap (λ n. entry_at n (after opening (event ∷ earlier)).nodes) at_id
        ∙ (ap (λ (what : Happened). entry_at own.id what.nodes) own.is
        ∙ (set_there own.id own.id own.node (node_after own.node own.now own.called) (after opening earlier).nodes own.there
        ∙ ap (λ b. cond b (Some (node_after own.node own.now own.called)) (entry_at own.id (after opening earlier).nodes)) (itself own.id)))

    final_left : (count : ℕ) → asked ≡ call.UpdateReplica count → IsFinal with_token.stamp count (held_at with_token.block (node_after own.node own.now own.called).blocks)
    final_left count e =
        subst (λ blocks. IsFinal with_token.stamp count (held_at with_token.block blocks))
        (sym (left ∙ ap (λ (c : TokenCall). replicas_after c with_token.stamp with_token.block own.node.blocks) e))
        (update_leaves own.node.limit with_token.stamp with_token.block count own.node.blocks (passes (call.UpdateReplica count) e))

    -- what an update leaves of the replica
    sets : (count : ℕ) → asked ≡ call.UpdateReplica count → HasFinalized (after opening (event ∷ earlier)) own.node.id with_token.block with_token.stamp count
    sets count e =
        let final = final_left count e in (
          final.replica,
          in_node (entry_at own.node.id (after opening (event ∷ earlier)).nodes) (node_after own.node own.now own.called) final.replica node_left final.there,
          final.stamped,
          final.done,
          final.long,
        )

    updates : (count : ℕ) → asked ≡ call.UpdateReplica count → HasUpdated opening (event ∷ earlier) own.node.id with_token.block with_token.stamp count
    updates count e =
        let final = final_left count e in
        record {
          later = [];
          earlier = earlier;
          event = event;
          presented = presented;
          replica = final.replica;
          all = refl;
          serves = served (call.UpdateReplica count) e;
          of_block = sym (asked_block own.node.id presented asked);
          at_stamp = sym (asked_stamp own.node.id presented asked);
          there = in_node (entry_at own.node.id (after opening (event ∷ earlier)).nodes) (node_after own.node own.now own.called) final.replica node_left final.there;
          stamped = final.stamped;
          finalized = final.done;
          long = final.long;
        }

  sent : AllByRecursion (CarriesHeld opening (event ∷ earlier)) (event_happened (after opening earlier) event).sent
  sent =
      event_sends (CarriesHeld opening (event ∷ earlier)) (after opening earlier) event
      (λ own presented asked is allowed. record {
        asks = λ to next. tt;
        reply = λ primary at. answers own presented asked is allowed at;
        updated = λ primary count at by. (count, updates own presented asked is allowed count at);
        finalized = λ count next at. tt;
        recovered = λ count at. tt;
        stored = λ bytes at. tt;
      })
      (λ own allowed. record { asks = λ to next. tt; commit = λ b stamp at. tt })
      (λ own. entry_sends (CarriesHeld opening (event ∷ earlier)) (after opening earlier) own.request (λ to next. tt) (λ to (order : Recover). tt))

pub all_carried : (opening : ClusterOpening) (events : List Event) → AllByRecursion (CarriesHeld opening events) (after opening events).messages
all_carried opening [] = tt
all_carried opening (event ∷ earlier) =
    each_append (CarriesHeld opening (event ∷ earlier)) (after opening earlier).messages (event_happened (after opening earlier) event).sent
    (each_more (CarriesHeld opening earlier) (CarriesHeld opening (event ∷ earlier)) (message_later opening event earlier) (after opening earlier).messages (all_carried opening earlier)) (sent opening event earlier)

-- ---- the law

pub answers_are_held : AnswersAreHeld
answers_are_held opening events number primary node block stamp count state is =
    message_brings (CarriesHeld opening events) (after opening events).messages number (message.Plan primary (plan.Reply node block stamp state count)) (all_carried opening events) is

-- ---- a call that is served was refused by nothing

err_ok : (told : NodeReply) (refusal : NodeRefusal) → Err refusal ≡ Ok told → ⊥
err_ok told refusal e = cc

allowed_at : (node : DataNode) (clock : ℕ) (own : Presented) (asked : TokenCall) (told : NodeReply) → (presented_answer node clock own asked).result ≡ Ok told → call_refusal node clock own asked ≡ None
unfolding presented_answer
allowed_at node clock own asked told served = by (call_refusal node clock own asked) refl served
  where
    by : (refused : Option NodeRefusal) → call_refusal node clock own asked ≡ refused → (told_by node own asked refused).result ≡ Ok told → call_refusal node clock own asked ≡ None
    by (Some refusal) e h = absurd (err_ok told refusal h)
    by None e h = e

allowed_in : (node : DataNode) (now : ℕ) (presented : Presented) (asked : TokenCall) (told : NodeReply) → (node_answer node now (Presenting presented asked)).result ≡ Ok told
    → call_refusal node (clock_with node now) (asked_by node.id presented asked) asked ≡ None
unfolding node_answer
allowed_in node now presented asked told served = allowed_at node (clock_with node now) (asked_by node.id presented asked) asked told served

pub updates_set_the_length : UpdatesSetTheLength
updates_set_the_length opening earlier event node count presented serves =
    let state = after opening earlier in
    let asked : NodeCall = Presenting presented (call.UpdateReplica count) in
    let by = served_by state event node serves.now asked serves.told serves.asks serves.served in
    let calls : Calls state (call_of state event) (event_happened state event) = record {
      id = node;
      now = serves.now;
      called = asked;
      node = by.own;
      asks = serves.asks;
      there = by.there;
      is = event_call state event (record { node = node; now = serves.now; call = asked }) serves.asks ∙ ap (called_at state node serves.now asked) by.there;
    } in
    let id : by.own.id ≡ node = ids_stand opening earlier node by.own by.there in
    let set = sets opening event earlier calls presented (call.UpdateReplica count) refl (allowed_in by.own serves.now presented (call.UpdateReplica count) serves.told by.answer) count refl in
    subst (λ n. HasFinalized (after opening (event ∷ earlier)) n presented.block presented.stamp count) id
    (subst (λ b. HasFinalized (after opening (event ∷ earlier)) by.own.id b presented.stamp count) (asked_block by.own.id presented (call.UpdateReplica count))
    (subst (λ s. HasFinalized (after opening (event ∷ earlier)) by.own.id (asked_by by.own.id presented (call.UpdateReplica count)).block s count) (asked_stamp by.own.id presented (call.UpdateReplica count)) set))
