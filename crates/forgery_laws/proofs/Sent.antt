-- Whatever happens in a cluster, messages and plans bring no other tokens than those that were granted, as long as clients present no others.
use Rattle.std.proofs.Common.{◌≡◌, ℕ, Bool, true, false, cond, List, [], ◌∷◌, ◌++◌, map, refl, subst, fold, Option, Some, None}
use Rattle.std.specs.Prelude.{unwrap_or}
use Rattle.std.specs.Bool.{⊤}
use Rattle.std.specs.List.{AllByRecursion}
use Rattle.block_records.specs.Numbers.{entry_at}
use Rattle.grant_ledger.specs.declared.ledger.LedgerRow.{LedgerRow}
use Rattle.node_ids.specs.NodeId.{node_of, node_principal}
use Rattle.block_answers.specs.Commands.{Commands}
use Rattle.block_answers.specs.declared.commands.CopyOrder.{CopyOrder}
use Rattle.block_answers.specs.declared.commands.Recover.{Recover}
use Rattle.block_answers.specs.declared.commands.Removal.{Removal}
use Rattle.hdfs_types.specs.declared.op.Request.{Request}
use Rattle.hdfs_types.specs.declared.reply.Reply.{Reply}
use Rattle.hdfs_types.specs.declared.reply.Reply.TheVariants as reply
use Rattle.flat_rows.specs.declared.verdict.Verdict.{Verdict}
use Rattle.flat_rows.specs.declared.verdict.Verdict.TheVariants.{Done, Denied, Refused}
use Rattle.history.specs.Grants.{ledger_of, rows_granted}
use Rattle.history.specs.Keys.{ring_of}
use Rattle.history.specs.LegalHistory.{now_at, verdict_of}
use Rattle.node_calls.specs.declared.call.NodeCall.{NodeCall}
use Rattle.node_calls.specs.declared.call.NodeCall.TheVariants.{Presenting, Invalidate, Keys}
use Rattle.node_calls.specs.declared.call.PlanCall.{PlanCall}
use Rattle.node_calls.specs.declared.call.PlanCall.TheVariants as plan
use Rattle.node_calls.specs.declared.call.TokenCall.{TokenCall}
use Rattle.node_calls.specs.declared.call.TokenCall.TheVariants as call
use Rattle.node_calls.specs.declared.message.Message.{Message}
use Rattle.node_calls.specs.declared.message.Message.TheVariants as message
use Rattle.call_parts.specs.declared.presented.Presented.{Presented}
use Rattle.node_calls.specs.declared.refusal.NodeRefusal.{NodeRefusal}
use Rattle.node_calls.specs.declared.refusal.ReplicaRefusal.{ReplicaRefusal}
use Rattle.replicas.specs.Asking.{asked_by, sends_copy}
use Rattle.replicas.specs.Sending.{call_sends, forward, to_primary}
use Rattle.replica_steps.specs.ReplicaStep.{held_at, removal_refusal}
use Rattle.replica_steps.specs.declared.held.Held.{Held}
use Rattle.datanode.specs.NodeStep.{DataNode, node_answer, presented_answer, told_by, removal_told, clock_with, call_refusal}
use Rattle.block_recovery.specs.Plans.{PlanTable, plan_at, new_plan, with_answer, with_decision, with_updated}
use Rattle.recovery_updates.specs.declared.fault.PlanRefusal.{PlanRefusal}
use Rattle.block_recovery.specs.declared.plan.Plan.{Plan}
use Rattle.plan_steps.specs.PlanStep.{recover_of, plan_refusal, answer_of, plans_with, left_unless, plans_after, no_plan, decision_there, presented_by_leader, to_each, plan_sends, told_unless, plan_answer}
use Rattle.cluster_trace.specs.DataCall.{DataCall, as_message, BeginWrite, Packet, Finalize, Read, Decide, Commit}
use Rattle.cluster_trace.specs.Provenance.{call_brought, call_of}
use Rattle.cluster_trace.specs.Trace.{Cluster, ClusterOpening, Happened, start, with_no_plan, event_lost, request_named, entry_of, node_called, called_at, leader_called, led_at, message_delivered, message_at, report_request, commit_request, is_from_outside, recover_message, removal_message, copy_message, command_messages, told_messages, sent_by, event_happened, left_by, after}
use Rattle.cluster_trace.specs.declared.event.Event.{Event}
use Rattle.cluster_trace.specs.declared.event.Event.TheVariants.{Name, Deliver, Data}
use Rattle.cluster_trace.specs.declared.outcome.ClusterRefusal.{ClusterRefusal}
use Rattle.cluster_trace.specs.declared.outcome.ClusterRefusal.TheVariants.{NoMessage, NoNode, NotFromOutside}
use Rattle.cluster_trace.proofs.Each.{some_is, each_append, each_more, each_map, in_append, AllValues, values_at, values_set, values_inserted}
use Rattle.cluster_trace.proofs.EachPlan.{EachPlan, plan_has, with_plan_has, changed_has}
use Rattle.cluster_trace.proofs.Sound.{message_brings}
use Rattle.cluster_laws.specs.Laws.{IsForgery, PresentsForged}
use Rattle.forgery_laws.specs.Forgeries.{IsTokenOf, PresentsGrantedToken, granted_in, PresentsOf, AllPresentGranted, ClientsAloneForge}
use Rattle.forgery_laws.proofs.Members.{in_behind, each_of_map}
use Rattle.forgery_laws.proofs.Orders.{CommandsGranted, TellsGranted, request_granted}

-- the NameNode granted the token that a call presents
abbrev CallShows : List LedgerRow → NodeCall → Type 0
CallShows rows (Presenting presented asked) = IsTokenOf rows presented.token
CallShows rows (Invalidate block stamp) = ⊤
CallShows rows (Keys update) = ⊤

-- and the one that a plan is begun with
abbrev PlanCallShows : List LedgerRow → PlanCall → Type 0
PlanCallShows rows (plan.Recover block stamp nodes token) = IsTokenOf rows token
PlanCallShows rows (plan.Reply node block stamp state bytes) = ⊤
PlanCallShows rows (plan.Decide block stamp) = ⊤
PlanCallShows rows (plan.Updated node block stamp) = ⊤
PlanCallShows rows (plan.Commit block stamp) = ⊤

abbrev MessageShows : List LedgerRow → Message → Type 0
MessageShows rows (message.Node node asked) = CallShows rows asked
MessageShows rows (message.Plan node asked) = PlanCallShows rows asked
MessageShows rows (message.Reported node block stamp bytes) = ⊤
MessageShows rows (message.CommitRecovery node block stamp bytes nodes) = ⊤

-- ---- what a DataNode sends shows the token that it was shown

module _ (rows : List LedgerRow) where
  forward_shows : (presented : Presented) (asked : List ℕ → TokenCall) (next : List ℕ) → IsTokenOf rows presented.token → AllByRecursion (MessageShows rows) (forward presented asked next)
  forward_shows presented asked [] h = tt
  forward_shows presented asked (first ∷ next) h = (h, tt)

  primary_shows : (primary : Option ℕ) (told : ℕ → Message) → ((node : ℕ) → MessageShows rows (told node)) → AllByRecursion (MessageShows rows) (to_primary primary told)
  primary_shows None told h = tt
  primary_shows (Some primary) told h = (h primary, tt)

  sends_show : (node : ℕ) (presented : Presented) (asked : TokenCall) (held : Held) → IsTokenOf rows presented.token → AllByRecursion (MessageShows rows) (call_sends node presented asked held)
  sends_show node presented (call.Begin next) held h = forward_shows presented call.Begin next h
  sends_show node presented (call.Packet offset bytes next) held h = forward_shows presented (call.Packet offset bytes) next h
  sends_show node presented (call.Finalize count next) held h =
      each_append (MessageShows rows) (forward presented (call.Finalize count) next) (message.Reported node presented.block presented.stamp count ∷ []) (forward_shows presented (call.Finalize count) next h) (tt, tt)
  sends_show node presented (call.Read offset count) held h = tt
  sends_show node presented call.InitRecovery held h = primary_shows (node_of presented.caller) _ (λ primary. tt)
  sends_show node presented (call.UpdateReplica count) held h =
      each_append (MessageShows rows) (to_primary (node_of presented.caller) _) (message.Reported node presented.block presented.stamp count ∷ []) (primary_shows (node_of presented.caller) _ (λ primary. tt)) (tt, tt)
  sends_show node presented (call.SendCopy to) held h = (h, tt)
  sends_show node presented (call.TakeCopy bytes) held h = (tt, tt)

  presented_shows : (node : DataNode) (clock : ℕ) (own : Presented) (asked : TokenCall) → IsTokenOf rows own.token → AllByRecursion (MessageShows rows) (presented_answer node clock own asked).messages
  unfolding presented_answer
  presented_shows node clock own asked h = by (call_refusal node clock own asked)
    where
      by : (refused : Option NodeRefusal) → AllByRecursion (MessageShows rows) (told_by node own asked refused).messages
      by (Some refusal) = tt
      by None = sends_show node.id own asked (held_at own.block node.blocks) h

  -- a copy that a node sends in its own name has the token that it was told
  own_shows : (node : ℕ) (own : Presented) (copies : Bool) → IsTokenOf rows own.token → IsTokenOf rows (cond copies (record own { caller = node_principal node }) own).token
  own_shows node own true h = h
  own_shows node own false h = h

  answer_shows : (node : DataNode) (now : ℕ) (asked : NodeCall) → CallShows rows asked → AllByRecursion (MessageShows rows) (node_answer node now asked).messages
  unfolding node_answer
  answer_shows node now (Presenting own asked) h = presented_shows node (clock_with node now) (asked_by node.id own asked) asked (own_shows node.id own (sends_copy asked) h)
  answer_shows node now (Keys update) h = tt
  answer_shows node now (Invalidate block stamp) h = by (removal_refusal stamp (held_at block node.blocks).replica)
    where
      by : (refused : Option ReplicaRefusal) → AllByRecursion (MessageShows rows) (removal_told refused).messages
      by (Some refusal) = tt
      by None = tt

  -- ---- what a DataNode sends that leads recoveries shows the token that its plan was begun with

  abbrev PlanHas : Plan → Type 0
  PlanHas own = IsTokenOf rows own.token

  each_shows : (presented : Presented) (asked : TokenCall) (nodes : List ℕ) → IsTokenOf rows presented.token → AllByRecursion (MessageShows rows) (to_each presented asked nodes)
  each_shows presented asked nodes h = each_map (MessageShows rows) (λ (node : ℕ). message.Node node (Presenting presented asked)) (λ (node : ℕ). h) nodes

  plan_sends_show : (leader : ℕ) (asked : PlanCall) (plans : PlanTable) → EachPlan PlanHas plans → PlanCallShows rows asked → AllByRecursion (MessageShows rows) (plan_sends leader asked plans)
  plan_sends_show leader (plan.Recover block stamp nodes token) plans all h = each_shows (presented_by_leader leader block stamp token) call.InitRecovery nodes h
  plan_sends_show leader (plan.Reply node block stamp state bytes) plans all h = tt
  plan_sends_show leader (plan.Decide block stamp) plans all h = by (plan_at block stamp plans) (λ own e. plan_has PlanHas block stamp plans own all e)
    where
      by : (found : Option Plan) → ((own : Plan) → found ≡ Some own → PlanHas own)
          → AllByRecursion (MessageShows rows) (to_each (presented_by_leader leader block stamp (unwrap_or found no_plan).token) (call.UpdateReplica (decision_there (unwrap_or found no_plan)).length) (decision_there (unwrap_or found no_plan)).nodes)
      by None has = tt
      by (Some own) has = each_shows (presented_by_leader leader block stamp own.token) (call.UpdateReplica (decision_there own).length) (decision_there own).nodes (has own refl)
  plan_sends_show leader (plan.Updated node block stamp) plans all h = tt
  plan_sends_show leader (plan.Commit block stamp) plans all h = (tt, tt)

  plan_answer_shows : (leader : ℕ) (asked : PlanCall) (plans : PlanTable) → EachPlan PlanHas plans → PlanCallShows rows asked → AllByRecursion (MessageShows rows) (plan_answer leader asked plans).messages
  unfolding plan_answer
  plan_answer_shows leader asked plans all h = by (plan_refusal asked plans)
    where
      by : (refused : Option PlanRefusal) → AllByRecursion (MessageShows rows) (told_unless leader asked plans refused).messages
      by (Some refusal) = tt
      by None = plan_sends_show leader asked plans all h

  -- no plan changes its token
  plans_with_have : (asked : PlanCall) (plans : PlanTable) → EachPlan PlanHas plans → PlanCallShows rows asked → EachPlan PlanHas (plans_with asked plans)
  plans_with_have (plan.Recover block stamp nodes token) plans all h = with_plan_has PlanHas block stamp (new_plan (recover_of block stamp nodes token)) plans all h
  plans_with_have (plan.Reply node block stamp state bytes) plans all h = changed_has PlanHas (with_answer node (answer_of state bytes)) block stamp plans all (λ own has. has)
  plans_with_have (plan.Decide block stamp) plans all h = changed_has PlanHas with_decision block stamp plans all (λ own has. has)
  plans_with_have (plan.Updated node block stamp) plans all h = changed_has PlanHas (with_updated node) block stamp plans all (λ own has. has)
  plans_with_have (plan.Commit block stamp) plans all h = all

  plans_after_have : (asked : PlanCall) (plans : PlanTable) → EachPlan PlanHas plans → PlanCallShows rows asked → EachPlan PlanHas (plans_after asked plans)
  unfolding plans_after
  plans_after_have asked plans all h = by (plan_refusal asked plans)
    where
      by : (refused : Option PlanRefusal) → EachPlan PlanHas (left_unless asked plans refused)
      by (Some refusal) = all
      by None = plans_with_have asked plans all h

  -- ---- what the NameNode sends

  commands_show : (node : ℕ) (commands : Commands) → CommandsGranted rows commands → AllByRecursion (MessageShows rows) (command_messages node commands)
  commands_show node commands granted = (
    tt,
    each_append (MessageShows rows) (map (recover_message node) commands.recoveries) (map (removal_message node) commands.removals ++ map (copy_message node) commands.copies)
        (each_of_map (λ (recovery : Recover). IsTokenOf rows recovery.token) (MessageShows rows) (recover_message node) (λ (own : Recover) h. h) commands.recoveries granted.0)
        (each_append (MessageShows rows) (map (removal_message node) commands.removals) (map (copy_message node) commands.copies)
        (each_map (MessageShows rows) (removal_message node) (λ (own : Removal). tt) commands.removals)
        (each_of_map (λ (copy : CopyOrder). IsTokenOf rows copy.token) (MessageShows rows) (copy_message node) (λ (own : CopyOrder) h. h) commands.copies granted.1)),
  )

  told_show : (caller : Option ℕ) (told : Reply) → TellsGranted rows (Done told) → AllByRecursion (MessageShows rows) (told_messages caller told)
  told_show (Some node) (reply.Commands commands) granted = commands_show node commands granted
  told_show _ told granted = tt

  verdict_shows : (caller : Option ℕ) (verdict : Verdict) → TellsGranted rows verdict → AllByRecursion (MessageShows rows) (sent_by caller verdict)
  verdict_shows caller (Done told) granted = told_show caller told granted
  verdict_shows caller (Denied denial) granted = tt
  verdict_shows caller (Refused refusal) granted = tt

-- ---- more rows

token_more : (rows more : List LedgerRow) (token : List ℕ) → IsTokenOf rows token → IsTokenOf (rows ++ more) token
token_more rows more token h = (h.0, in_append h.0 rows more h.1, h.2)

token_behind : (front rows : List LedgerRow) (token : List ℕ) → IsTokenOf rows token → IsTokenOf (front ++ rows) token
token_behind front rows token h = (h.0, in_behind h.0 front rows h.1, h.2)

module _ (P Q : List LedgerRow) (more : (token : List ℕ) → IsTokenOf P token → IsTokenOf Q token) where
  message_more : (own : Message) → MessageShows P own → MessageShows Q own
  message_more (message.Node node (Keys update)) h = tt
  message_more (message.Node node (Presenting presented asked)) h = more presented.token h
  message_more (message.Node node (Invalidate block stamp)) h = tt
  message_more (message.Plan node (plan.Recover block stamp nodes token)) h = more token h
  message_more (message.Plan node (plan.Reply other block stamp state bytes)) h = tt
  message_more (message.Plan node (plan.Decide block stamp)) h = tt
  message_more (message.Plan node (plan.Updated other block stamp)) h = tt
  message_more (message.Plan node (plan.Commit block stamp)) h = tt
  message_more (message.Reported node block stamp bytes) h = tt
  message_more (message.CommitRecovery node block stamp bytes nodes) h = tt

  messages_more : (messages : List Message) → AllByRecursion (MessageShows P) messages → AllByRecursion (MessageShows Q) messages
  messages_more messages all = each_more (MessageShows P) (MessageShows Q) message_more messages all

  plans_more : (plans : List (ℕ × PlanTable)) → AllValues (EachPlan (PlanHas P)) plans → AllValues (EachPlan (PlanHas Q)) plans
  plans_more plans all =
      each_more (λ (entry : ℕ × PlanTable). EachPlan (PlanHas P) entry.1) (λ (entry : ℕ × PlanTable). EachPlan (PlanHas Q) entry.1)
      (λ entry. each_more (λ (own : ℕ × List (ℕ × Plan)). AllValues (PlanHas P) own.1) (λ (own : ℕ × List (ℕ × Plan)). AllValues (PlanHas Q) own.1)
      (λ own. each_more (λ (one : ℕ × Plan). PlanHas P one.1) (λ (one : ℕ × Plan). PlanHas Q one.1) (λ one. more one.1.token) own.1) entry.1) plans all

told_more : (front rows : List LedgerRow) (verdict : Verdict) → TellsGranted rows verdict → TellsGranted (front ++ rows) verdict
told_more front rows (Done (reply.Commands commands)) granted = (
  each_more (λ (recovery : Recover). IsTokenOf rows recovery.token) (λ (recovery : Recover). IsTokenOf (front ++ rows) recovery.token) (λ recovery. token_behind front rows recovery.token) commands.recoveries granted.0,
  each_more (λ (copy : CopyOrder). IsTokenOf rows copy.token) (λ (copy : CopyOrder). IsTokenOf (front ++ rows) copy.token) (λ copy. token_behind front rows copy.token) commands.copies granted.1,
)
told_more front rows _ granted = tt

-- ---- every event

abbrev PlansShow : List LedgerRow → List (ℕ × PlanTable) → Type 0
PlansShow rows plans = AllValues (EachPlan (PlanHas rows)) plans

record Keeps (state : Cluster) (what : Happened) : Type 0 where
  sent : AllByRecursion (MessageShows (ledger_of state.opening what.entries)) what.sent
  plans : PlansShow (ledger_of state.opening what.entries) what.plans
  more : (token : List ℕ) → IsTokenOf (granted_in state) token → IsTokenOf (ledger_of state.opening what.entries) token

record AllShow (state : Cluster) : Type 0 where
  messages : AllByRecursion (MessageShows (granted_in state)) state.messages
  plans : PlansShow (granted_in state) state.plans

left_shows : (state : Cluster) (what : Happened) → AllShow state → Keeps state what → AllShow (left_by state what)
left_shows state what all keeps = record {
  messages = each_append (MessageShows (ledger_of state.opening what.entries)) state.messages what.sent (messages_more (granted_in state) (ledger_of state.opening what.entries) keeps.more state.messages all.messages) keeps.sent;
  plans = keeps.plans;
}

lost_keeps : (state : Cluster) (refusal : ClusterRefusal) → AllShow state → Keeps state (event_lost state refusal)
lost_keeps state refusal all = record { sent = tt; plans = all.plans; more = λ token h. h }

named_keeps : (state : Cluster) (request : Request) → AllShow state → Keeps state (request_named state request)
named_keeps state request all =
    let before = granted_in state in
    let verdict = verdict_of state.opening state.entries request in
    let rows : List LedgerRow = rows_granted (entry_of state request).place (ring_of state.opening state.entries) (now_at state.entries request) request.caller request.op verdict in
    record {
      sent = verdict_shows (before ++ rows) (node_of request.caller) verdict (told_more before rows verdict (request_granted state.opening state.entries request (entry_of state request).place));
      plans = plans_more before (before ++ rows) (token_more before rows) state.plans all.plans;
      more = token_more before rows;
    }

called_keeps : (state : Cluster) (id now : ℕ) (asked : NodeCall) → AllShow state → CallShows (granted_in state) asked → Keeps state (node_called state id now asked)
called_keeps state id now asked all shows = by (entry_at id state.nodes)
  where
    by : (found : Option DataNode) → Keeps state (called_at state id now asked found)
    by None = lost_keeps state NoNode all
    by (Some node) = record { sent = answer_shows (granted_in state) node now asked shows; plans = all.plans; more = λ token h. h }

led_keeps : (state : Cluster) (id : ℕ) (asked : PlanCall) → AllShow state → PlanCallShows (granted_in state) asked → Keeps state (leader_called state id asked)
led_keeps state id asked all shows = by (entry_at id state.plans) (λ own e. values_at (EachPlan (PlanHas (granted_in state))) state.plans id own all.plans e)
  where
    by : (found : Option PlanTable) → ((own : PlanTable) → found ≡ Some own → EachPlan (PlanHas (granted_in state)) own) → Keeps state (led_at state id asked found)
    by None has = lost_keeps state NoNode all
    by (Some plans) has = record {
      sent = plan_answer_shows (granted_in state) id asked plans (has plans refl) shows;
      plans = values_set (EachPlan (PlanHas (granted_in state))) state.plans id (plans_after asked plans) all.plans (plans_after_have (granted_in state) asked plans (has plans refl) shows);
      more = λ token h. h;
    }

delivered_keeps : (state : Cluster) (now : ℕ) (found : Option Message) → AllShow state → ((own : Message) → found ≡ Some own → MessageShows (granted_in state) own) → Keeps state (message_delivered state now found)
delivered_keeps state now None all shows = lost_keeps state NoMessage all
delivered_keeps state now (Some (message.Node node asked)) all shows = called_keeps state node now asked all (shows (message.Node node asked) refl)
delivered_keeps state now (Some (message.Plan node asked)) all shows = led_keeps state node asked all (shows (message.Plan node asked) refl)
delivered_keeps state now (Some (message.Reported node block stamp bytes)) all shows = named_keeps state (report_request node now block stamp bytes) all
delivered_keeps state now (Some (message.CommitRecovery node block stamp bytes nodes)) all shows = named_keeps state (commit_request node now block stamp bytes nodes) all

-- what is asked from outside shows what its client presents
outside_shows : (rows : List LedgerRow) (node : ℕ) (asked : DataCall) → PresentsGrantedToken rows asked → MessageShows rows (as_message node asked)
outside_shows rows node (BeginWrite presented next) h = h
outside_shows rows node (Packet presented offset bytes next) h = h
outside_shows rows node (Finalize presented count next) h = h
outside_shows rows node (Read presented offset count) h = h
outside_shows rows node (Decide block stamp) h = tt
outside_shows rows node (Commit block stamp) h = tt

shows_as : (rows : List LedgerRow) (node : ℕ) (asked : DataCall) → PresentsGrantedToken rows asked → (own : Message) → Some (as_message node asked) ≡ Some own → MessageShows rows own
shows_as rows node asked h own e = subst (MessageShows rows) (some_is (as_message node asked) own e) (outside_shows rows node asked h)

event_keeps : (state : Cluster) (event : Event) → AllShow state → PresentsOf (granted_in state) event → Keeps state (event_happened state event)
event_keeps state (Name request) all presents = by (is_from_outside request.op)
  where
    by : (b : Bool) → Keeps state (cond b (request_named state request) (event_lost state NotFromOutside))
    by true = named_keeps state request all
    by false = lost_keeps state NotFromOutside all
event_keeps state (Deliver number now) all presents =
    delivered_keeps state now (message_at number state.messages) all (λ own e. message_brings (MessageShows (granted_in state)) state.messages number own all.messages e)
event_keeps state (Data node now asked) all presents = delivered_keeps state now (Some (as_message node asked)) all (shows_as (granted_in state) node asked presents)

start_plans : (rows : List LedgerRow) (ids : List ℕ) (plans : List (ℕ × PlanTable)) → PlansShow rows plans → PlansShow rows (fold with_no_plan plans ids)
start_plans rows [] plans all = all
start_plans rows (id ∷ ids) plans all = start_plans rows ids (with_no_plan plans id) (values_inserted (EachPlan (PlanHas rows)) plans id [] all tt)

all_show : (opening : ClusterOpening) (events : List Event) → AllPresentGranted opening events → AllShow (after opening events)
all_show opening [] presents = record { messages = tt; plans = start_plans (granted_in (start opening)) opening.nodes [] tt }
all_show opening (event ∷ earlier) presents =
    let all = all_show opening earlier presents.1 in
    left_shows (after opening earlier) (event_happened (after opening earlier) event) all (event_keeps (after opening earlier) event all presents.0)

-- ---- nothing is forged

granted_is_right : (state : Cluster) (asked : NodeCall) → CallShows (granted_in state) asked → PresentsForged state asked → ⊥
granted_is_right state (Presenting presented asked) h forged = forged.not_granted h.0 h.1 h.2
granted_is_right state (Invalidate block stamp) h forged = forged
granted_is_right state (Keys update) h forged = forged

message_is_right : (state : Cluster) (now : ℕ) (found : Option Message) → ((own : Message) → found ≡ Some own → MessageShows (granted_in state) own) → IsForgery state (call_brought now found) → ⊥
message_is_right state now None shows forged = forged
message_is_right state now (Some (message.Node node asked)) shows forged = granted_is_right state asked (shows (message.Node node asked) refl) forged
message_is_right state now (Some (message.Plan node asked)) shows forged = forged
message_is_right state now (Some (message.Reported node block stamp bytes)) shows forged = forged
message_is_right state now (Some (message.CommitRecovery node block stamp bytes nodes)) shows forged = forged

event_is_right : (state : Cluster) (event : Event) → AllShow state → PresentsOf (granted_in state) event → IsForgery state (call_of state event) → ⊥
event_is_right state (Name request) all presents forged = forged
event_is_right state (Deliver number now) all presents forged =
    message_is_right state now (message_at number state.messages) (λ own e. message_brings (MessageShows (granted_in state)) state.messages number own all.messages e) forged
event_is_right state (Data node now asked) all presents forged = message_is_right state now (Some (as_message node asked)) (shows_as (granted_in state) node asked presents) forged

pub nothing_is_forged : ClientsAloneForge
nothing_is_forged opening [] presents = tt
nothing_is_forged opening (event ∷ earlier) presents = (
  event_is_right (after opening earlier) event (all_show opening earlier presents.1) presents.0,
  nothing_is_forged opening earlier presents.1,
)
