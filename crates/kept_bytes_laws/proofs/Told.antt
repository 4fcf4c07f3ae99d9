-- Over every list of events, DataNodes tell of finalized replicas that they had.
use Rattle.std.proofs.Common.{◌≡◌, ℕ, Bool, true, false, ◌&&◌, ◌||◌, ◌⊎◌, inl, inr, List, [], ◌∷◌, length, Option, Some, None, unwrap_or, refl, sym, ap, ◌∙◌, subst, cond}
use Rattle.std.specs.Prelude.{option_map}
use Rattle.std.specs.Bool.{⊤}
use Rattle.std.specs.List.{AllByRecursion, list_any}
use Rattle.std.specs.Option.{option_and_then}
use Rattle.block_records.specs.Numbers.{is_number, entry_at}
use Rattle.block_records.proofs.Numbers.{number_is}
use Rattle.block_recovery.specs.Plans.{PlanTable, plan_at, with_plan_changed, new_plan, with_answer, with_decision, with_updated}
use Rattle.block_recovery.specs.declared.decision.Decision.{Decision}
use Rattle.recovery_updates.specs.declared.fault.PlanRefusal.{PlanRefusal}
use Rattle.block_recovery.specs.declared.plan.Plan.{Plan}
use Rattle.block_recovery.proofs.Lookups.{has_inserted}
use Rattle.block_recovery.proofs.Steps.{plan_changed, plan_begun}
use Rattle.block_recovery.proofs.Tables.{itself}
use Rattle.block_tokens.specs.TokenTest.{token_test}
use Rattle.datanode.proofs.Nodes.{replica_passes}
use Rattle.block_answers.specs.declared.commands.Recover.{Recover}
use Rattle.node_calls.specs.declared.call.NodeCall.{NodeCall}
use Rattle.node_calls.specs.declared.call.NodeCall.TheVariants.{Presenting}
use Rattle.node_calls.specs.declared.call.PlanCall.{PlanCall}
use Rattle.node_calls.specs.declared.call.PlanCall.TheVariants as plan
use Rattle.node_calls.specs.declared.call.TokenCall.{TokenCall}
use Rattle.node_calls.specs.declared.call.TokenCall.TheVariants as call
use Rattle.node_calls.specs.declared.message.Message.{Message}
use Rattle.node_calls.specs.declared.message.Message.TheVariants as message
use Rattle.call_parts.specs.declared.presented.Presented.{Presented}
use Rattle.node_calls.specs.declared.refusal.NodeRefusal.{NodeRefusal}
use Rattle.replicas.specs.Asking.{asked_by, sends_copy}
use Rattle.replicas.specs.Sending.{call_reply}
use Rattle.node_ids.specs.NodeId.{node_principal}
use Rattle.replica_steps.specs.ReplicaStep.{held_at, replica_refusal, replicas_after}
use Rattle.replica_steps.specs.declared.held.Held.{Held}
use Rattle.datanode.specs.NodeStep.{DataNode, node_after, node_answer, presented_after, presented_by, clock_with, call_refusal, access_of}
use Rattle.plan_steps.specs.PlanStep.{recover_of, answer_of, plan_refusal, left_unless, plans_after}
use Rattle.cluster_trace.specs.Provenance.{call_of}
use Rattle.cluster_trace.specs.Trace.{Cluster, ClusterOpening, Happened, event_happened, after}
use Rattle.cluster_trace.specs.declared.event.Event.{Event}
use Rattle.cluster_trace.proofs.Each.{some_is, never_some, each_append, each_more, each_in}
use Rattle.fencing_laws.specs.Fencing.{plan_in, Serves, HasDecided}
use Rattle.fencing_laws.proofs.Behind.{set_there}
use Rattle.fencing_laws.proofs.Decided.{decided_stays, updates_are_decided}
use Rattle.fencing_laws.proofs.Plans.{event_stays}
use Rattle.fencing_laws.proofs.Promises.{all_below}
use Rattle.fencing_laws.proofs.OnePlan.{all_ordered, one_plan}
use Rattle.kept_bytes_laws.specs.Listed.{HasHeld}
use Rattle.kept_bytes_laws.proofs.Fronts.{asked_block, served_answer}
use Rattle.kept_bytes_laws.proofs.Held.{IsFinal, update_leaves, write_leaves, copy_leaves}
use Rattle.kept_bytes_laws.proofs.Sent.{is_driven, Calls, Leads, Does, does, event_sends, entry_sends}
use Rattle.kept_bytes_laws.proofs.Since.{served_at, answered_at, ids_stand}

-- ---- what was held

pub held_later : (opening : ClusterOpening) (event : Event) (events : List Event) (node block stamp count : ℕ) → HasHeld opening events node block stamp count → HasHeld opening (event ∷ events) node block stamp count
held_later opening event events node block stamp count h = record {
  later = event ∷ h.later;
  earlier = h.earlier;
  all = ap (λ (l : List Event). event ∷ l) h.all;
  replica = h.replica;
  there = h.there;
  stamped = h.stamped;
  finalized = h.finalized;
  long = h.long;
}

held_now : (opening : ClusterOpening) (events : List Event) (id block stamp count : ℕ) (own : DataNode) → entry_at id (after opening events).nodes ≡ Some own → IsFinal stamp count (held_at block own.blocks)
    → HasHeld opening events id block stamp count
held_now opening events id block stamp count own there final = record {
  later = [];
  earlier = events;
  all = refl;
  replica = final.replica;
  there = ap (λ (found : Option DataNode). option_and_then (λ (held : Held). held.replica) (option_map (λ (one : DataNode). held_at block one.blocks) found)) there ∙ final.there;
  stamped = final.stamped;
  finalized = final.done;
  long = final.long;
}

-- ---- a call that is served

pub blocks_left : (node : DataNode) (now : ℕ) (presented : Presented) (asked : TokenCall) → call_refusal node (clock_with node now) (asked_by node.id presented asked) asked ≡ None
    → (node_after node now (Presenting presented asked)).blocks ≡ replicas_after asked (asked_by node.id presented asked).stamp (asked_by node.id presented asked).block node.blocks
unfolding node_after presented_after
blocks_left node now presented asked e = ap (λ (refused : Option NodeRefusal). (presented_by node (clock_with node now) (asked_by node.id presented asked) asked refused).blocks) e

same_stamp : (b : Bool) (given : Presented) (principal : List ℕ) → (cond b (record given { caller = principal }) given).stamp ≡ given.stamp
same_stamp true given principal = refl
same_stamp false given principal = refl

pub asked_stamp : (id : ℕ) (presented : Presented) (asked : TokenCall) → (asked_by id presented asked).stamp ≡ presented.stamp
asked_stamp id presented asked = same_stamp (sends_copy asked) presented (node_principal id)

-- ---- messages

-- the node has had the replica that a plan has it updated to
abbrev pub UpdatedTells : ClusterOpening → List Event → ℕ → ℕ → ℕ → Type 0
UpdatedTells opening events node block stamp =
    (leader : ℕ) × (decision : Decision) × HasDecided (after opening events) leader block stamp decision × HasHeld opening events node block stamp decision.length

abbrev pub PlanTells : ClusterOpening → List Event → PlanCall → Type 0
PlanTells opening events (plan.Recover block stamp nodes token) = ⊤
PlanTells opening events (plan.Reply node block stamp state count) = ⊤
PlanTells opening events (plan.Decide block stamp) = ⊤
PlanTells opening events (plan.Updated node block stamp) = UpdatedTells opening events node block stamp
PlanTells opening events (plan.Commit block stamp) = ⊤

abbrev pub TellsHeld : ClusterOpening → List Event → Message → Type 0
TellsHeld opening events (message.Node to asked) = ⊤
TellsHeld opening events (message.Plan to asked) = PlanTells opening events asked
TellsHeld opening events (message.Reported node block stamp count) = HasHeld opening events node block stamp count
TellsHeld opening events (message.CommitRecovery leader block stamp count nodes) = ⊤

module _ (opening : ClusterOpening) (event : Event) (earlier : List Event) where
  abbrev state : Cluster
  state = after opening earlier

  plan_later : (asked : PlanCall) → PlanTells opening earlier asked → PlanTells opening (event ∷ earlier) asked
  plan_later (plan.Recover block stamp nodes token) h = tt
  plan_later (plan.Reply node block stamp kind count) h = tt
  plan_later (plan.Decide block stamp) h = tt
  plan_later (plan.Updated node block stamp) h =
      (h.0, h.1, decided_stays (after opening earlier) event h.0 block stamp h.1 h.2, held_later opening event earlier node block stamp h.1.length h.3)
  plan_later (plan.Commit block stamp) h = tt

  message_later : (own : Message) → TellsHeld opening earlier own → TellsHeld opening (event ∷ earlier) own
  message_later (message.Node to asked) h = tt
  message_later (message.Plan to asked) h = plan_later asked h
  message_later (message.Reported node block stamp count) h = held_later opening event earlier node block stamp count h
  message_later (message.CommitRecovery leader block stamp count nodes) h = tt

  module _ (own : Calls (after opening earlier) (call_of (after opening earlier) event) (event_happened (after opening earlier) event)) (presented : Presented) (asked : TokenCall) (is : own.called ≡ Presenting presented asked)
      (allowed : call_refusal own.node (clock_with own.node own.now) (asked_by own.node.id presented asked) asked ≡ None) where
    abbrev with_token : Presented
    with_token = asked_by own.node.id presented asked

    passes : replica_refusal own.node.limit asked with_token.stamp (held_at with_token.block own.node.blocks) ≡ None
    passes = replica_passes (token_test own.node.keys (access_of (clock_with own.node own.now) with_token asked) with_token.token) (replica_refusal own.node.limit asked with_token.stamp (held_at with_token.block own.node.blocks)) allowed

    node_there : entry_at own.id (after opening (event ∷ earlier)).nodes ≡ Some (node_after own.node own.now own.called)
    node_there =
        ap (λ (what : Happened). entry_at own.id what.nodes) own.is
        ∙ (set_there own.id own.id own.node (node_after own.node own.now own.called) state.nodes own.there ∙ ap (λ b. cond b (Some (node_after own.node own.now own.called)) (entry_at own.id state.nodes)) (itself own.id))

    at_id : own.id ≡ own.node.id
    at_id = sym (ids_stand opening earlier own.id own.node own.there)

    left : (node_after own.node own.now own.called).blocks ≡ replicas_after asked with_token.stamp with_token.block own.node.blocks
    left = ap (λ (c : NodeCall). (node_after own.node own.now c).blocks) is ∙ blocks_left own.node own.now presented asked allowed

    now_held : (count : ℕ) → IsFinal with_token.stamp count (held_at with_token.block (replicas_after asked with_token.stamp with_token.block own.node.blocks))
        → HasHeld opening (event ∷ earlier) own.node.id with_token.block with_token.stamp count
    now_held count final =
        subst (λ n. HasHeld opening (event ∷ earlier) n with_token.block with_token.stamp count) at_id
        (held_now opening (event ∷ earlier) own.id with_token.block with_token.stamp count (node_after own.node own.now own.called) node_there
        (subst (λ blocks. IsFinal with_token.stamp count (held_at with_token.block blocks)) (sym left) final))

    finalizes : (count : ℕ) (next : List ℕ) → asked ≡ call.Finalize count next → HasHeld opening (event ∷ earlier) own.node.id with_token.block with_token.stamp count
    finalizes count next e =
        now_held count
        (subst (λ (c : TokenCall). IsFinal with_token.stamp count (held_at with_token.block (replicas_after c with_token.stamp with_token.block own.node.blocks))) (sym e)
        (write_leaves own.node.limit with_token.stamp with_token.block count next own.node.blocks
        (subst (λ (c : TokenCall). replica_refusal own.node.limit c with_token.stamp (held_at with_token.block own.node.blocks) ≡ None) e passes)
        (all_below opening earlier own.id own.node own.there with_token.block)))

    recovers : (count : ℕ) → asked ≡ call.UpdateReplica count → HasHeld opening (event ∷ earlier) own.node.id with_token.block with_token.stamp count
    recovers count e =
        now_held count
        (subst (λ (c : TokenCall). IsFinal with_token.stamp count (held_at with_token.block (replicas_after c with_token.stamp with_token.block own.node.blocks))) (sym e)
        (update_leaves own.node.limit with_token.stamp with_token.block count own.node.blocks
        (subst (λ (c : TokenCall). replica_refusal own.node.limit c with_token.stamp (held_at with_token.block own.node.blocks) ≡ None) e passes)))

    stores : (bytes : List ℕ) → asked ≡ call.TakeCopy bytes → HasHeld opening (event ∷ earlier) own.node.id with_token.block with_token.stamp (length bytes)
    stores bytes e =
        now_held (length bytes)
        (subst (λ (c : TokenCall). IsFinal with_token.stamp (length bytes) (held_at with_token.block (replicas_after c with_token.stamp with_token.block own.node.blocks))) (sym e)
        (copy_leaves with_token.stamp with_token.block bytes own.node.blocks))

    -- which a plan decided
    updates : (count : ℕ) → asked ≡ call.UpdateReplica count → UpdatedTells opening (event ∷ earlier) own.node.id with_token.block with_token.stamp
    updates count e =
        let serves : Serves opening earlier event own.id presented (call.UpdateReplica count) = record {
          now = own.now;
          told = call_reply asked (held_at with_token.block own.node.blocks);
          asks = served_at (after opening earlier) event own own.id (Presenting presented (call.UpdateReplica count)) refl (is ∙ ap (Presenting presented) e);
          served = answered_at (after opening earlier) event own (call_reply asked (held_at with_token.block own.node.blocks))
              (ap (λ (c : NodeCall). (node_answer own.node own.now c).result) is ∙ served_answer own.node own.now presented asked allowed);
        } in
        let decided = updates_are_decided opening earlier event own.id count presented serves in
        let stays = decided_stays (after opening earlier) event decided.0 presented.block presented.stamp decided.1 decided.2 in
        let held : HasHeld opening (event ∷ earlier) own.node.id with_token.block with_token.stamp decided.1.length =
        subst (λ n. HasHeld opening (event ∷ earlier) own.node.id with_token.block with_token.stamp n) (sym decided.3) (recovers count e) in (
          decided.0,
          decided.1,
          subst (λ b. HasDecided (after opening (event ∷ earlier)) decided.0 b with_token.stamp decided.1) (sym (asked_block own.node.id presented asked))
              (subst (λ s. HasDecided (after opening (event ∷ earlier)) decided.0 presented.block s decided.1) (sym (asked_stamp own.node.id presented asked)) stays),
          held,
        )

  sent : AllByRecursion (TellsHeld opening (event ∷ earlier)) (event_happened (after opening earlier) event).sent
  sent =
      event_sends (TellsHeld opening (event ∷ earlier)) (after opening earlier) event
      (λ own presented asked is allowed. record {
        asks = λ to next. tt;
        reply = λ primary at. tt;
        updated = λ primary count at by. updates own presented asked is allowed count at;
        finalized = λ count next at. finalizes own presented asked is allowed count next at;
        recovered = λ count at. recovers own presented asked is allowed count at;
        stored = λ bytes at. stores own presented asked is allowed bytes at;
      })
      (λ own allowed. record { asks = λ to next. tt; commit = λ b stamp at. tt })
      (λ own. entry_sends (TellsHeld opening (event ∷ earlier)) (after opening earlier) own.request (λ to next. tt) (λ to (order : Recover). tt))

pub all_told : (opening : ClusterOpening) (events : List Event) → AllByRecursion (TellsHeld opening events) (after opening events).messages
all_told opening [] = tt
all_told opening (event ∷ earlier) =
    each_append (TellsHeld opening (event ∷ earlier)) (after opening earlier).messages (event_happened (after opening earlier) event).sent
    (each_more (TellsHeld opening earlier) (TellsHeld opening (event ∷ earlier)) (message_later opening event earlier) (after opening earlier).messages (all_told opening earlier)) (sent opening event earlier)

-- ---- one call of a DataNode that leads

-- it had noted the node before
pub record Had (plans : PlanTable) (block stamp node : ℕ) : Type 0 where
  pub old : Plan
  pub there : plan_at block stamp plans ≡ Some old
  pub noted : list_any (is_number node) old.updated ≡ true

abbrev pub HadOrNow : PlanCall → PlanTable → ℕ → ℕ → ℕ → Type 0
HadOrNow asked plans block stamp node = Had plans block stamp node ⊎ (asked ≡ plan.Updated node block stamp)

had_changed : (change : Plan → Plan) → ((own : Plan) → (change own).updated ≡ own.updated) → (block stamp b s node : ℕ) (plans : PlanTable) (own : Plan)
    → plan_at b s (with_plan_changed change block stamp plans) ≡ Some own → list_any (is_number node) own.updated ≡ true → Had plans b s node
had_changed change keeps block stamp b s node plans own e noted = by (is_number block b && is_number stamp s) (plan_at b s plans) refl (sym (plan_changed change block stamp b s plans) ∙ e)
  where
    by : (x : Bool) (found : Option Plan) → plan_at b s plans ≡ found → cond x (option_map change found) found ≡ Some own → Had plans b s node
    by true None at h = absurd (never_some own h)
    by true (Some old) at h =
        let is : change old ≡ own = some_is (change old) own h in
        record { old = old; there = at; noted = ap (list_any (is_number node)) (sym (keeps old)) ∙ (ap (λ (p : Plan). list_any (is_number node) p.updated) is ∙ noted) }
    by false None at h = absurd (never_some own h)
    by false (Some old) at h = record { old = own; there = at ∙ h; noted = noted }

noted_now : (from block stamp b s node : ℕ) (plans : PlanTable) (own : Plan) → plan_at b s (with_plan_changed (with_updated from) block stamp plans) ≡ Some own → list_any (is_number node) own.updated ≡ true
    → HadOrNow (plan.Updated from block stamp) plans b s node
noted_now from block stamp b s node plans own e noted =
    by (is_number block b) refl (is_number stamp s) refl (plan_at b s plans) refl (sym (plan_changed (with_updated from) block stamp b s plans) ∙ e)
  where
    one : (old : Plan) → plan_at b s plans ≡ Some old → block ≡ b → stamp ≡ s → (y : Bool) → is_number node from ≡ y → (y || list_any (is_number node) old.updated) ≡ true → HadOrNow (plan.Updated from block stamp) plans b s node
    one old at first second true is h = inr (
        ap (λ (n : ℕ). plan.Updated n block stamp) (sym (number_is node from is))
        ∙ (ap (λ (n : ℕ). plan.Updated node n stamp) first ∙ ap (λ (n : ℕ). plan.Updated node b n) second))
    one old at first second false is h = inl (record { old = old; there = at; noted = h })

    by : (x : Bool) → is_number block b ≡ x → (y : Bool) → is_number stamp s ≡ y → (found : Option Plan) → plan_at b s plans ≡ found
        → cond (x && y) (option_map (with_updated from) found) found ≡ Some own → HadOrNow (plan.Updated from block stamp) plans b s node
    by true p true q None at h = absurd (never_some own h)
    by true p true q (Some old) at h =
        let is : with_updated from old ≡ own = some_is (with_updated from old) own h in
        one old at (number_is block b p) (number_is stamp s q) (is_number node from) refl
        (sym (has_inserted from node old.updated) ∙ (ap (λ (p : Plan). list_any (is_number node) p.updated) is ∙ noted))
    by true p false q found at h = inl (record { old = own; there = at ∙ h; noted = noted })
    by false p y q found at h = inl (record { old = own; there = at ∙ h; noted = noted })

begins_without : (block stamp : ℕ) (nodes token : List ℕ) (b s node : ℕ) (plans : PlanTable) (own : Plan)
    → cond (is_number b block && is_number s stamp) (Some (new_plan (recover_of block stamp nodes token))) (plan_at b s plans) ≡ Some own → list_any (is_number node) own.updated ≡ true → Had plans b s node
begins_without block stamp nodes token b s node plans own e noted = by (is_number b block && is_number s stamp) e
  where
    never : false ≡ true → ⊥
    never e = cc

    by : (x : Bool) → cond x (Some (new_plan (recover_of block stamp nodes token))) (plan_at b s plans) ≡ Some own → Had plans b s node
    by true h = absurd (never (ap (λ (p : Plan). list_any (is_number node) p.updated) (some_is (new_plan (recover_of block stamp nodes token)) own h) ∙ noted))
    by false h = record { old = own; there = h; noted = noted }

pub had_or_now : (asked : PlanCall) (plans : PlanTable) (b s node : ℕ) (own : Plan) → plan_at b s (plans_after asked plans) ≡ Some own → list_any (is_number node) own.updated ≡ true → HadOrNow asked plans b s node
unfolding plans_after
had_or_now asked plans b s node own e noted = by (plan_refusal asked plans) e
  where
    left : (call : PlanCall) → plan_at b s (left_unless call plans None) ≡ Some own → HadOrNow call plans b s node
    left (plan.Recover block stamp nodes token) h = inl (begins_without block stamp nodes token b s node plans own (sym (plan_begun (recover_of block stamp nodes token) b s plans) ∙ h) noted)
    left (plan.Reply from block stamp state count) h = inl (had_changed (with_answer from (answer_of state count)) (λ one. refl) block stamp b s node plans own h noted)
    left (plan.Decide block stamp) h = inl (had_changed with_decision (λ one. refl) block stamp b s node plans own h noted)
    left (plan.Updated from block stamp) h = noted_now from block stamp b s node plans own h noted
    left (plan.Commit block stamp) h = inl (record { old = own; there = h; noted = noted })

    by : (refused : Option PlanRefusal) → plan_at b s (left_unless asked plans refused) ≡ Some own → HadOrNow asked plans b s node
    by (Some refusal) h = inl (record { old = own; there = h; noted = noted })
    by None h = left asked h

-- ---- plans

-- each node that a plan noted has had a replica as the plan decided
abbrev pub NotedHeld : ClusterOpening → List Event → Type 0
NotedHeld opening events = (leader block stamp node : ℕ) (own : Plan) → plan_in (after opening events) leader block stamp ≡ Some own → list_any (is_number node) own.updated ≡ true
    → (decision : Decision) × (own.decision ≡ Some decision) × HasHeld opening events node block stamp decision.length

module _ (opening : ClusterOpening) (event : Event) (earlier : List Event) (before : NotedHeld opening earlier) where
  abbrev behind : Cluster
  behind = after opening earlier

  abbrev Result : ℕ → ℕ → ℕ → Plan → Type 0
  Result block stamp node own = (decision : Decision) × (own.decision ≡ Some decision) × HasHeld opening (event ∷ earlier) node block stamp decision.length

  abbrev table_at : ℕ → List (ℕ × PlanTable) → PlanTable
  table_at leader plans = unwrap_or (entry_at leader plans) []

  -- a plan that was there has its decision still
  old_noted : (leader block stamp node : ℕ) (own old : Plan) → plan_in (after opening (event ∷ earlier)) leader block stamp ≡ Some own → plan_in (after opening earlier) leader block stamp ≡ Some old
      → list_any (is_number node) old.updated ≡ true → Result block stamp node own
  old_noted leader block stamp node own old now was noted =
      let had = before leader block stamp node old was noted in
      let stays = event_stays (after opening earlier) event leader block stamp old was in
      let same : stays.now ≡ own = some_is stays.now own (sym stays.there ∙ now) in
      (had.0, subst (λ (p : Plan). p.decision ≡ Some had.0) same (stays.extends.decision had.0 had.1), held_later opening event earlier node block stamp had.0.length had.2)

  -- one that notes a node now was told so
  new_noted : (leader block stamp node : ℕ) (own : Plan) → plan_in (after opening (event ∷ earlier)) leader block stamp ≡ Some own → UpdatedTells opening earlier node block stamp → Result block stamp node own
  new_noted leader block stamp node own now told =
      let has : HasDecided (after opening earlier) told.0 block stamp told.1 = told.2 in
      let stays = event_stays (after opening earlier) event told.0 block stamp has.0 has.1 in
      let one : told.0 ≡ leader = one_plan opening (event ∷ earlier) block stamp told.0 leader stays.now own stays.there now in
      let same : stays.now ≡ own = some_is stays.now own (sym stays.there ∙ (ap (λ n. plan_in (after opening (event ∷ earlier)) n block stamp) one ∙ now)) in
      (told.1, subst (λ (p : Plan). p.decision ≡ Some told.1) same (stays.extends.decision told.1 has.2), held_later opening event earlier node block stamp told.1.length told.3)

  noted_by : NotedHeld opening (event ∷ earlier)
  noted_by leader block stamp node own now noted = by (does (after opening earlier) event)
    where
      same_plans : (what : Happened) → event_happened (after opening earlier) event ≡ what → what.plans ≡ behind.plans → Result block stamp node own
      same_plans what is same =
          old_noted leader block stamp node own own now (ap (λ (plans : List (ℕ × PlanTable)). plan_at block stamp (table_at leader plans)) (sym (ap (λ (w : Happened). w.plans) is ∙ same)) ∙ now) noted

      led : (one : Leads behind (event_happened (after opening earlier) event)) → one.id ≡ leader → HadOrNow one.asked one.plans block stamp node → Result block stamp node own
      led one at (inl had) =
          old_noted leader block stamp node own had.old now (ap (λ n. plan_at block stamp (table_at n behind.plans)) (sym at) ∙ (ap (λ (found : Option PlanTable). plan_at block stamp (unwrap_or found [])) one.there ∙ had.there)) had.noted
      led one at (inr asks) =
          let told : PlanTells opening earlier one.asked = each_in (TellsHeld opening earlier) behind.messages (message.Plan one.id one.asked) (all_told opening earlier) (one.brought (ap is_driven asks)) in
          new_noted leader block stamp node own now (subst (PlanTells opening earlier) asks told)

      at_leader : (one : Leads behind (event_happened (after opening earlier) event)) (b : Bool) → is_number one.id leader ≡ b
          → plan_at block stamp (unwrap_or (cond b (Some (plans_after one.asked one.plans)) (entry_at leader behind.plans)) []) ≡ Some own → Result block stamp node own
      at_leader one true at h = led one (number_is one.id leader at) (had_or_now one.asked one.plans block stamp node own h noted)
      at_leader one false at h = old_noted leader block stamp node own own now h noted

      by : Does behind (call_of behind event) (event_happened (after opening earlier) event) → Result block stamp node own
      by (inl one) = same_plans _ one.is refl
      by (inr (inl one)) = same_plans _ one.is refl
      by (inr (inr (inl one))) =
          at_leader one (is_number one.id leader) refl
          (sym (ap (λ (w : Happened). plan_at block stamp (table_at leader w.plans)) one.is
          ∙ ap (λ (o : Option PlanTable). plan_at block stamp (unwrap_or o [])) (set_there one.id leader one.plans (plans_after one.asked one.plans) behind.plans one.there)) ∙ now)
      by (inr (inr (inr one))) = same_plans _ one.is refl

pub all_noted_held : (opening : ClusterOpening) (events : List Event) → NotedHeld opening events
all_noted_held opening [] = λ leader block stamp node own there noted. absurd (all_ordered opening [] leader block stamp own there).is
all_noted_held opening (event ∷ earlier) = noted_by opening event earlier (all_noted_held opening earlier)
