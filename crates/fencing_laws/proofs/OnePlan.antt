-- Plans begin as the NameNode ordered, and so there is one for each block and stamp; what it decided is done.
use Rattle.std.proofs.Common.{◌≡◌, ℕ, zero, suc, Bool, true, false, ◌&&◌, ◌⊎◌, inl, inr, List, [], ◌∷◌, ◌++◌, fold, Option, Some, None, unwrap_or, refl, sym, ap, ◌∙◌, subst, cond}
use Rattle.std.specs.Prelude.{slice_get}
use Rattle.std.specs.List.{AllByRecursion}
use Rattle.std.specs.Option.{option_map}
use Rattle.block_records.specs.Numbers.{is_number, entry_at}
use Rattle.block_records.specs.declared.block_record.BlockRecord.{BlockRecord}
use Rattle.block_records.proofs.Numbers.{number_is}
use Rattle.block_map.specs.BlockFacts.{newest_stamp}
use Rattle.block_recovery.specs.Plans.{PlanTable, plan_at, with_plan_changed, new_plan, with_answer, with_decision, with_updated}
use Rattle.block_recovery.specs.declared.decision.Decision.{Decision}
use Rattle.recovery_updates.specs.declared.fault.PlanRefusal.{PlanRefusal}
use Rattle.block_recovery.specs.declared.plan.Plan.{Plan}
use Rattle.block_recovery.proofs.Steps.{plan_changed, plan_begun}
use Rattle.hdfs_types.specs.declared.op.Op.{Op}
use Rattle.hdfs_types.specs.declared.op.Op.TheVariants as op
use Rattle.hdfs_types.specs.declared.op.Request.{Request}
use Rattle.hdfs_types.specs.declared.replica.RecoveredBlock.{RecoveredBlock}
use Rattle.hdfs_types.specs.declared.replica.ReportedReplica.{ReportedReplica}
use Rattle.hdfs_types.specs.declared.reply.Reply.{Reply}
use Rattle.flat_rows.specs.Outcome.{first_refusal}
use Rattle.flat_rows.specs.declared.verdict.Verdict.TheVariants.{Done}
use Rattle.history.specs.Config as name
use Rattle.history.specs.LegalHistory.{IsLegal, now_at}
use Rattle.history.specs.State.{rows_of, users_of, blocks_of, facts_of}
use Rattle.history.specs.declared.entry.HistoryEntry.{HistoryEntry}
use Rattle.block_laws.proofs.Unrefused.{was_done, recovery_ran}
use Rattle.node_calls.specs.declared.call.NodeCall.{NodeCall}
use Rattle.node_calls.specs.declared.call.PlanCall.{PlanCall}
use Rattle.node_calls.specs.declared.call.PlanCall.TheVariants as plan
use Rattle.node_calls.specs.declared.message.Message.{Message}
use Rattle.node_calls.specs.declared.message.Message.TheVariants as message
use Rattle.datanode.specs.NodeStep.{DataNode}
use Rattle.plan_steps.specs.PlanStep.{recover_of, answer_of, plan_refusal, left_unless, plans_after}
use Rattle.cluster_trace.specs.DataCall.{DataCall, as_message}
use Rattle.cluster_trace.specs.DataCall as outside
use Rattle.cluster_trace.specs.Provenance.{IsIn}
use Rattle.cluster_trace.specs.Trace.{Cluster, ClusterOpening, with_no_plan, event_lost, request_named, called_at, led_at, message_delivered, message_at, is_from_outside, event_happened, happens, after}
use Rattle.cluster_trace.specs.declared.event.Event.{Event}
use Rattle.cluster_trace.specs.declared.event.Event.TheVariants.{Name, Deliver, Data}
use Rattle.cluster_trace.specs.declared.outcome.ClusterRefusal.TheVariants.{NotFromOutside}
use Rattle.cluster_trace.proofs.Each.{some_is, never_some, each_more, each_in, in_append, AllValues, values_at, values_inserted}
use Rattle.fencing_laws.specs.Fencing.{plan_in, HasDecided}
use Rattle.fencing_laws.specs.OnePlan.{OneNodeIsAsked, RecoveriesHaveOnePlan, UpdatesFollowThePlan, EndsFollowThePlan}
use Rattle.fencing_laws.proofs.Behind.{set_there}
use Rattle.fencing_laws.proofs.Plans.{event_stays, plans_stay}
use Rattle.fencing_laws.proofs.Decided.{decided_stays, updates_are_decided, commits_are_decided}
use Rattle.fencing_laws.proofs.Orders.{Order}
use Rattle.fencing_laws.proofs.Leaders.{Agree, AllAgree, leaders}

-- ---- messages

get_in : (messages : List Message) (i : ℕ) (own : Message) → slice_get messages i ≡ Some own → IsIn own messages
get_in [] i own e = absurd (never_some own e)
get_in (first ∷ messages) zero own e = inl (sym (some_is first own e))
get_in (first ∷ messages) (suc i) own e = inr (get_in messages i own e)

pub at_in : (messages : List Message) (number : ℕ) (own : Message) → message_at number messages ≡ Some own → IsIn own messages
at_in messages zero own e = absurd (never_some own e)
at_in messages (suc before) own e = get_in messages before own e

both_agree : (messages : List Message) (own other : Message) → AllAgree messages → IsIn own messages → IsIn other messages → Agree own other
both_agree messages own other agree here there = each_in (Agree own) messages other (each_in (λ one. AllByRecursion (Agree one) messages) messages own agree here) there

pub one_is_asked : OneNodeIsAsked
one_is_asked opening events first second node other block stamp nodes others token another here there =
    let messages = (after opening events).messages in
    let own : Message = message.Plan node (plan.Recover block stamp nodes token) in
    let also : Message = message.Plan other (plan.Recover block stamp others another) in
    let a : Order = record { node = node; block = block; stamp = stamp; nodes = nodes } in
    let b : Order = record { node = other; block = block; stamp = stamp; nodes = others } in
    both_agree messages own also (leaders opening events).agree (at_in messages first own here) (at_in messages second also there) a b refl refl refl refl

-- ---- one call of a DataNode that leads

-- it led the recovery before, and asks the same nodes
record Led (plans : PlanTable) (block stamp : ℕ) (own : Plan) : Type 0 where
  old : Plan
  there : plan_at block stamp plans ≡ Some old
  nodes : own.nodes ≡ old.nodes

-- or was ordered to lead it now
record Began (asked : PlanCall) (block stamp : ℕ) (own : Plan) : Type 0 where
  token : List ℕ
  is : asked ≡ plan.Recover block stamp own.nodes token

led_changed : (change : Plan → Plan) → ((own : Plan) → (change own).nodes ≡ own.nodes) → (block stamp b s : ℕ) (plans : PlanTable) (own : Plan) → plan_at b s (with_plan_changed change block stamp plans) ≡ Some own → Led plans b s own
led_changed change keeps block stamp b s plans own e = by (is_number block b && is_number stamp s) (plan_at b s plans) refl (sym (plan_changed change block stamp b s plans) ∙ e)
  where
    by : (x : Bool) (found : Option Plan) → plan_at b s plans ≡ found → cond x (option_map change found) found ≡ Some own → Led plans b s own
    by true None at h = cc
    by true (Some old) at h = record { old = old; there = at; nodes = subst (λ (one : Plan). one.nodes ≡ old.nodes) (some_is (change old) own h) (keeps old) }
    by false None at h = cc
    by false (Some old) at h = record { old = own; there = at ∙ h; nodes = refl }

began : (block stamp : ℕ) (nodes token : List ℕ) (b s : ℕ) (plans : PlanTable) (own : Plan) → cond (is_number b block && is_number s stamp) (Some (new_plan (recover_of block stamp nodes token))) (plan_at b s plans) ≡ Some own
    → Led plans b s own ⊎ Began (plan.Recover block stamp nodes token) b s own
began block stamp nodes token b s plans own e = by (is_number b block) refl (is_number s stamp) refl e
  where
    new : Plan
    new = new_plan (recover_of block stamp nodes token)

    by : (x : Bool) → is_number b block ≡ x → (y : Bool) → is_number s stamp ≡ y → cond (x && y) (Some new) (plan_at b s plans) ≡ Some own → Led plans b s own ⊎ Began (plan.Recover block stamp nodes token) b s own
    by true p true q h = inr (record {
      token = token;
      is = ap (λ (n : ℕ). plan.Recover n stamp nodes token) (sym (number_is b block p))
          ∙ (ap (λ (n : ℕ). plan.Recover b n nodes token) (sym (number_is s stamp q)) ∙ ap (λ (one : Plan). plan.Recover b s one.nodes token) (some_is new own h));
    })
    by true p false q h = inl (record { old = own; there = h; nodes = refl })
    by false p y q h = inl (record { old = own; there = h; nodes = refl })

led_or_began : (asked : PlanCall) (plans : PlanTable) (b s : ℕ) (own : Plan) → plan_at b s (plans_after asked plans) ≡ Some own → Led plans b s own ⊎ Began asked b s own
unfolding plans_after
led_or_began asked plans b s own e = by (plan_refusal asked plans) e
  where
    left : (call : PlanCall) → plan_at b s (left_unless call plans None) ≡ Some own → Led plans b s own ⊎ Began call b s own
    left (plan.Recover block stamp nodes token) h = began block stamp nodes token b s plans own (sym (plan_begun (recover_of block stamp nodes token) b s plans) ∙ h)
    left (plan.Reply node block stamp state bytes) h = inl (led_changed (with_answer node (answer_of state bytes)) (λ one. refl) block stamp b s plans own h)
    left (plan.Decide block stamp) h = inl (led_changed with_decision (λ one. refl) block stamp b s plans own h)
    left (plan.Updated node block stamp) h = inl (led_changed (with_updated node) (λ one. refl) block stamp b s plans own h)
    left (plan.Commit block stamp) h = inl (record { old = own; there = h; nodes = refl })

    by : (refused : Option PlanRefusal) → plan_at b s (left_unless asked plans refused) ≡ Some own → Led plans b s own ⊎ Began asked b s own
    by (Some refusal) h = inl (record { old = own; there = h; nodes = refl })
    by None h = left asked h

-- ---- plans were ordered

abbrev tables_at : ℕ → List (ℕ × PlanTable) → PlanTable
tables_at node plans = unwrap_or (entry_at node plans) []

-- a message ordered it
pub record WasOrdered (messages : List Message) (node block stamp : ℕ) (nodes : List ℕ) : Type 0 where
  pub token : List ℕ
  pub is : IsIn (message.Plan node (plan.Recover block stamp nodes token)) messages

abbrev pub AllOrdered : List Message → List (ℕ × PlanTable) → Type 0
AllOrdered messages plans = (node block stamp : ℕ) (own : Plan) → plan_at block stamp (tables_at node plans) ≡ Some own → WasOrdered messages node block stamp own.nodes

-- an order comes with a message
abbrev IsBrought : Cluster → ℕ → PlanCall → Type 0
IsBrought state id asked = (block stamp : ℕ) (nodes token : List ℕ) → asked ≡ plan.Recover block stamp nodes token → IsIn (message.Plan id asked) state.messages

led_ordered : (state : Cluster) (id : ℕ) (asked : PlanCall) (found : Option PlanTable) → entry_at id state.plans ≡ found → IsBrought state id asked → AllOrdered state.messages state.plans
    → AllOrdered state.messages (led_at state id asked found).plans
led_ordered state id asked None e brought all = all
led_ordered state id asked (Some plans) e brought all = λ node block stamp own there.
    by node block stamp own (is_number id node) refl (sym (ap (λ (found : Option PlanTable). plan_at block stamp (unwrap_or found [])) (set_there id node plans (plans_after asked plans) state.plans e)) ∙ there)
  where
    one : (node block stamp : ℕ) (own : Plan) → id ≡ node → Led plans block stamp own ⊎ Began asked block stamp own → WasOrdered state.messages node block stamp own.nodes
    one node block stamp own same (inl led) =
        let before = all node block stamp led.old (ap (λ (n : ℕ). plan_at block stamp (tables_at n state.plans)) (sym same) ∙ (ap (λ (found : Option PlanTable). plan_at block stamp (unwrap_or found [])) e ∙ led.there)) in
        subst (λ nodes. WasOrdered state.messages node block stamp nodes) (sym led.nodes) before
    one node block stamp own same (inr new) =
        record { token = new.token; is = subst (λ (own : Message). IsIn own state.messages) (ap (λ (call : PlanCall). message.Plan id call) new.is ∙ ap (λ (n : ℕ). message.Plan n (plan.Recover block stamp own.nodes new.token)) same) (brought block stamp own.nodes new.token new.is) }

    by : (node block stamp : ℕ) (own : Plan) (b : Bool) → is_number id node ≡ b → plan_at block stamp (unwrap_or (cond b (Some (plans_after asked plans)) (entry_at node state.plans)) []) ≡ Some own
        → WasOrdered state.messages node block stamp own.nodes
    by node block stamp own true at h = one node block stamp own (number_is id node at) (led_or_began asked plans block stamp own h)
    by node block stamp own false at h = all node block stamp own h

called_ordered : (state : Cluster) (id now : ℕ) (asked : NodeCall) (found : Option DataNode) → AllOrdered state.messages state.plans → AllOrdered state.messages (called_at state id now asked found).plans
called_ordered state id now asked None all = all
called_ordered state id now asked (Some own) all = all

abbrev BringsOrder : Cluster → Option Message → Type 0
BringsOrder state found = (id : ℕ) (asked : PlanCall) → found ≡ Some (message.Plan id asked) → IsBrought state id asked

delivered_ordered : (state : Cluster) (now : ℕ) (found : Option Message) → BringsOrder state found → AllOrdered state.messages state.plans → AllOrdered state.messages (message_delivered state now found).plans
delivered_ordered state now None brought all = all
delivered_ordered state now (Some (message.Node node asked)) brought all = called_ordered state node now asked (entry_at node state.nodes) all
delivered_ordered state now (Some (message.Plan node asked)) brought all = led_ordered state node asked (entry_at node state.plans) refl (brought node asked refl) all
delivered_ordered state now (Some (message.Reported node block stamp count)) brought all = all
delivered_ordered state now (Some (message.CommitRecovery node block stamp count nodes)) brought all = all

request_ordered : (state : Cluster) (request : Request) (from : Bool) → AllOrdered state.messages state.plans → AllOrdered state.messages (cond from (request_named state request) (event_lost state NotFromOutside)).plans
request_ordered state request true all = all
request_ordered state request false all = all

-- nobody orders it from outside
node_call : (node id : ℕ) (asked : NodeCall) (call : PlanCall) → Some (message.Node node asked) ≡ Some (message.Plan id call) → ⊥
node_call node id asked call e = cc

plan_call : (node id : ℕ) (asked call : PlanCall) → Some (message.Plan node asked) ≡ Some (message.Plan id call) → asked ≡ call
plan_call node id asked call e = cc

decide_call : (b s block stamp : ℕ) (nodes token : List ℕ) → plan.Decide b s ≡ plan.Recover block stamp nodes token → ⊥
decide_call b s block stamp nodes token e = cc

commit_call : (b s block stamp : ℕ) (nodes token : List ℕ) → plan.Commit b s ≡ plan.Recover block stamp nodes token → ⊥
commit_call b s block stamp nodes token e = cc

outside_brings : (state : Cluster) (node : ℕ) (asked : DataCall) → BringsOrder state (Some (as_message node asked))
outside_brings state node (outside.BeginWrite presented next) id call e = absurd (node_call _ id _ call e)
outside_brings state node (outside.Packet presented offset bytes next) id call e = absurd (node_call _ id _ call e)
outside_brings state node (outside.Finalize presented count next) id call e = absurd (node_call _ id _ call e)
outside_brings state node (outside.Read presented offset count) id call e = absurd (node_call _ id _ call e)
outside_brings state node (outside.Decide b s) id call e = λ block stamp nodes token is. absurd (decide_call b s block stamp nodes token (plan_call node id (plan.Decide b s) call e ∙ is))
outside_brings state node (outside.Commit b s) id call e = λ block stamp nodes token is. absurd (commit_call b s block stamp nodes token (plan_call node id (plan.Commit b s) call e ∙ is))

event_ordered : (state : Cluster) (event : Event) → AllOrdered state.messages state.plans → AllOrdered state.messages (event_happened state event).plans
event_ordered state (Name request) all = request_ordered state request (is_from_outside request.op) all
event_ordered state (Deliver number now) all =
    delivered_ordered state now (message_at number state.messages) (λ id asked e block stamp nodes token is. at_in state.messages number (message.Plan id asked) e) all
event_ordered state (Data node now asked) all = delivered_ordered state now (Some (as_message node asked)) (outside_brings state node asked) all

-- no plan is there at first
abbrev IsEmpty : PlanTable → Type 0
IsEmpty plans = (block stamp : ℕ) (own : Plan) → plan_at block stamp plans ≡ Some own → ⊥

none_there : IsEmpty []
none_there block stamp own e = never_some own e

start_empty : (ids : List ℕ) (plans : List (ℕ × PlanTable)) → AllValues IsEmpty plans → AllValues IsEmpty (fold with_no_plan plans ids)
start_empty [] plans all = all
start_empty (id ∷ ids) plans all = start_empty ids (with_no_plan plans id) (values_inserted IsEmpty plans id [] all none_there)

pub all_ordered : (opening : ClusterOpening) (events : List Event) → AllOrdered (after opening events).messages (after opening events).plans
all_ordered opening [] node block stamp own there = by (entry_at node (after opening []).plans) refl there
  where
    by : (found : Option PlanTable) → entry_at node (after opening []).plans ≡ found → plan_at block stamp (unwrap_or found []) ≡ Some own → WasOrdered [] node block stamp own.nodes
    by None e h = absurd (none_there block stamp own h)
    by (Some plans) e h = absurd (values_at IsEmpty (after opening []).plans node plans (start_empty opening.nodes [] tt) e block stamp own h)
all_ordered opening (event ∷ earlier) node block stamp own there =
    let state = after opening earlier in
    let was = event_ordered state event (all_ordered opening earlier) node block stamp own there in
    record { token = was.token; is = in_append (message.Plan node (plan.Recover block stamp own.nodes was.token)) state.messages (event_happened state event).sent was.is }

-- ---- one plan

pub one_plan : RecoveriesHaveOnePlan
one_plan opening events block stamp node other own also here there =
    let messages = (after opening events).messages in
    let first = all_ordered opening events node block stamp own here in
    let second = all_ordered opening events other block stamp also there in
    let a : Order = record { node = node; block = block; stamp = stamp; nodes = own.nodes } in
    let b : Order = record { node = other; block = block; stamp = stamp; nodes = also.nodes } in
    both_agree messages (message.Plan node (plan.Recover block stamp own.nodes first.token)) (message.Plan other (plan.Recover block stamp also.nodes second.token))
    (leaders opening events).agree first.is second.is a b refl refl refl refl

pub updates_follow : UpdatesFollowThePlan
updates_follow opening later earlier event node count leader presented own serves there =
    let block = presented.block in
    let stamp = presented.stamp in
    let state = after opening (later ++ event ∷ earlier) in
    let decided = updates_are_decided opening earlier event node count presented serves in
    let has : HasDecided (after opening earlier) decided.0 block stamp decided.1 = decided.2 in
    let first = event_stays (after opening earlier) event decided.0 block stamp has.0 has.1 in
    let now = plans_stay opening later (event ∷ earlier) decided.0 block stamp first.now first.there in
    let same : decided.0 ≡ leader = one_plan opening (later ++ event ∷ earlier) block stamp decided.0 leader now.0 own now.1 there in
    let is : now.0 ≡ own = some_is now.0 own (sym now.1 ∙ (ap (λ (n : ℕ). plan_in state n block stamp) same ∙ there)) in
    (decided.1, subst (λ (one : Plan). one.decision ≡ Some decided.1) is (now.2.decision decided.1 (first.extends.decision decided.1 has.2)), decided.3, decided.4)

-- ---- the end of a recovery

abbrev EndDecided : Cluster → HistoryEntry → Type 0
EndDecided state entry = (own : RecoveredBlock) → entry.request.op ≡ op.CommitRecovery own
    → (leader : ℕ) × (decision : Decision) × HasDecided state leader own.block own.stamp decision × (decision.length ≡ own.length)

abbrev AllEnded : Cluster → List HistoryEntry → Type 0
AllEnded state entries = AllByRecursion (EndDecided state) entries

-- what a message that ends a recovery tells was decided
abbrev EndsRightly : Cluster → Option Message → Type 0
EndsRightly state found = (leader block stamp count : ℕ) (nodes : List ℕ) → found ≡ Some (message.CommitRecovery leader block stamp count nodes)
    → (decision : Decision) × HasDecided state leader block stamp decision × (decision.length ≡ count)

recovered_is : (own other : RecoveredBlock) → op.CommitRecovery own ≡ op.CommitRecovery other → own ≡ other
recovered_is own other e = cc

no_end : (replica : ReportedReplica) (own : RecoveredBlock) → op.Reported replica ≡ op.CommitRecovery own → ⊥
no_end replica own e = cc

called_ended : (state : Cluster) (id now : ℕ) (asked : NodeCall) (found : Option DataNode) → AllEnded state state.entries → AllEnded state (called_at state id now asked found).entries
called_ended state id now asked None all = all
called_ended state id now asked (Some own) all = all

led_ended : (state : Cluster) (id : ℕ) (asked : PlanCall) (found : Option PlanTable) → AllEnded state state.entries → AllEnded state (led_at state id asked found).entries
led_ended state id asked None all = all
led_ended state id asked (Some own) all = all

delivered_ended : (state : Cluster) (now : ℕ) (found : Option Message) → EndsRightly state found → AllEnded state state.entries → AllEnded state (message_delivered state now found).entries
delivered_ended state now None ends all = all
delivered_ended state now (Some (message.Node node asked)) ends all = called_ended state node now asked (entry_at node state.nodes) all
delivered_ended state now (Some (message.Plan node asked)) ends all = led_ended state node asked (entry_at node state.plans) all
delivered_ended state now (Some (message.Reported node block stamp count)) ends all = ((λ own is. absurd (no_end _ own is)), all)
delivered_ended state now (Some (message.CommitRecovery node block stamp count nodes)) ends all = (
  λ own is.
      let made : RecoveredBlock = record { block = block; stamp = stamp; length = count; nodes = nodes } in
      let first = ends node block stamp count nodes refl in
      subst (λ (one : RecoveredBlock). (leader : ℕ) × (decision : Decision) × HasDecided state leader one.block one.stamp decision × (decision.length ≡ one.length)) (recovered_is made own is)
      (node, first.0, first.1, first.2),
  all,
)

request_ended : (state : Cluster) (request : Request) (from : Bool) → is_from_outside request.op ≡ from → AllEnded state state.entries → AllEnded state (cond from (request_named state request) (event_lost state NotFromOutside)).entries
request_ended state request true from all = ((λ own is. let no : is_from_outside request.op ≡ false = ap is_from_outside is in absurd (differ (sym from ∙ no))), all)
  where
    differ : true ≡ false → ⊥
    differ e = cc
request_ended state request false from all = all

outside_ends : (state : Cluster) (node : ℕ) (asked : DataCall) → EndsRightly state (Some (as_message node asked))
outside_ends state node (outside.BeginWrite presented next) leader block stamp count nodes e = cc
outside_ends state node (outside.Packet presented offset bytes next) leader block stamp count nodes e = cc
outside_ends state node (outside.Finalize presented length next) leader block stamp count nodes e = cc
outside_ends state node (outside.Read presented offset length) leader block stamp count nodes e = cc
outside_ends state node (outside.Decide b s) leader block stamp count nodes e = cc
outside_ends state node (outside.Commit b s) leader block stamp count nodes e = cc

all_ended : (opening : ClusterOpening) (events : List Event) → AllEnded (after opening events) (after opening events).entries
all_ended opening [] = tt
all_ended opening (event ∷ earlier) =
    each_more (EndDecided state) (EndDecided (happens state event))
    (λ entry h own is. let was = h own is in (was.0, was.1, decided_stays state event was.0 own.block own.stamp was.1 was.2, was.3)) (event_happened state event).entries (by event (all_ended opening earlier))
  where
    state : Cluster
    state = after opening earlier

    by : (event : Event) → AllEnded state state.entries → AllEnded state (event_happened state event).entries
    by (Name request) all = request_ended state request (is_from_outside request.op) refl all
    by (Deliver number now) all =
        delivered_ended state now (message_at number state.messages) (λ leader block stamp count nodes e. commits_are_decided opening earlier number leader block stamp count nodes e) all
    by (Data node now asked) all = delivered_ended state now (Some (as_message node asked)) (outside_ends state node asked) all

-- at the newest stamp
done_at_newest : (opening : name.Opening) (entry : HistoryEntry) (earlier : List HistoryEntry) (own : RecoveredBlock) (told : Reply) → IsLegal opening (entry ∷ earlier)
    → entry.request.op ≡ op.CommitRecovery own → entry.verdict ≡ Done told → newest_stamp (blocks_of opening earlier) own.block ≡ Some own.stamp
done_at_newest opening entry earlier own told legal is done =
    let facts = facts_of opening earlier (now_at earlier entry.request) in
    let rows = rows_of opening earlier in
    let users = users_of earlier in
    let was = was_done facts rows users entry.request.caller entry.request.op told (sym done ∙ legal.1) in
    let ran = recovery_ran facts entry.request.caller own rows users (subst (λ (what : Op). first_refusal facts entry.request.caller what rows users ≡ None) is was.unrefused) in
    ap (option_map (λ (one : BlockRecord). one.stamp)) ran.there ∙ ap (λ n. Some n) (sym ran.stamped)

legal_front : (opening : name.Opening) (later earlier : List HistoryEntry) → IsLegal opening (later ++ earlier) → IsLegal opening earlier
legal_front opening [] earlier legal = legal
legal_front opening (entry ∷ later) earlier legal = legal_front opening later earlier legal.2

pub opening_stays : (opening : ClusterOpening) (events : List Event) → (after opening events).opening ≡ opening.name
opening_stays opening [] = refl
opening_stays opening (event ∷ earlier) = opening_stays opening earlier

among : (later earlier : List HistoryEntry) (entry : HistoryEntry) → IsIn entry (later ++ entry ∷ earlier)
among [] earlier entry = inl refl
among (first ∷ later) earlier entry = inr (among later earlier entry)

pub ends_follow : EndsFollowThePlan
ends_follow opening events later earlier entry own told entries is done =
    let legal : IsLegal opening.name (later ++ entry ∷ earlier) =
    subst (λ (list : List HistoryEntry). IsLegal opening.name list) entries (subst (λ (first : name.Opening). IsLegal first (after opening events).entries) (opening_stays opening events) (leaders opening events).legal) in
    let ended = each_in (EndDecided (after opening events)) (later ++ entry ∷ earlier) entry (subst (λ (list : List HistoryEntry). AllEnded (after opening events) list) entries (all_ended opening events)) (among later earlier entry) own is in
    (done_at_newest opening.name entry earlier own told (legal_front opening.name later (entry ∷ earlier) legal) is done, ended.0, ended.1, ended.2, ended.3)
