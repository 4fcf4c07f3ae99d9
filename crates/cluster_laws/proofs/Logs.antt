-- Each record of a log rests on a grant, as long as no event presents a forged token.
use Rattle.std.proofs.Common.{◌≡◌, ℕ, Bool, true, false, cond, ◌⊎◌, inl, inr, List, [], ◌∷◌, ◌++◌, refl, sym, ◌∙◌, fold, Option, Some, None, Result, Ok, Err}
use Rattle.std.specs.List.{AllByRecursion}
use Rattle.block_records.specs.Numbers.{entry_at}
use Rattle.hdfs_types.specs.declared.op.Request.{Request}
use Rattle.grant_ledger.specs.declared.ledger.LedgerRow.{LedgerRow}
use Rattle.history.specs.ClockAndLease.{clock_of}
use Rattle.history.specs.Grants.{ledger_of, rows_granted}
use Rattle.history.specs.Keys.{ring_of}
use Rattle.call_parts.specs.declared.access_log.AccessRecord.{AccessRecord}
use Rattle.node_calls.specs.declared.call.NodeCall.{NodeCall}
use Rattle.node_calls.specs.declared.call.NodeCall.TheVariants.{Presenting, Invalidate, Keys}
use Rattle.node_calls.specs.declared.call.PlanCall.{PlanCall}
use Rattle.node_calls.specs.declared.call.TokenCall.{TokenCall}
use Rattle.node_calls.specs.declared.message.Message.{Message}
use Rattle.node_calls.specs.declared.message.Message.TheVariants as message
use Rattle.call_parts.specs.declared.presented.Presented.{Presented}
use Rattle.node_calls.specs.declared.refusal.NodeRefusal.{NodeRefusal}
use Rattle.node_calls.specs.declared.refusal.ReplicaRefusal.{ReplicaRefusal}
use Rattle.node_calls.specs.declared.reply.NodeReply.{NodeReply}
use Rattle.replicas.specs.Asking.{asked_by, record_of}
use Rattle.replica_steps.specs.ReplicaStep.{held_at, removal_refusal}
use Rattle.datanode.specs.NodeStep.{DataNode, node_after, node_answer, presented_after, presented_answer, presented_by, told_by, removed_by, clock_with, call_refusal}
use Rattle.block_recovery.specs.Plans.{PlanTable}
use Rattle.cluster_trace.specs.DataCall.{as_message}
use Rattle.cluster_trace.specs.Provenance.{IsIn, ledger_in, IsForged, IsGranted, IsCoveredWhere, call_brought, call_of, IsServedRightly, AllRight}
use Rattle.cluster_trace.specs.Trace.{Cluster, ClusterOpening, Happened, with_new_node, new_node, event_lost, request_named, entry_of, called_at, leader_called, led_at, message_delivered, message_at, report_request, commit_request, is_from_outside, event_happened, after}
use Rattle.cluster_trace.specs.Typed.{AreTyped}
use Rattle.cluster_trace.specs.declared.event.Event.{Event}
use Rattle.cluster_trace.specs.declared.event.Event.TheVariants.{Name, Deliver, Data}
use Rattle.cluster_trace.specs.declared.outcome.ClusterRefusal.TheVariants.{NotFromOutside}
use Rattle.cluster_trace.specs.declared.outcome.EventAnswer.TheVariants.{Called}
use Rattle.cluster_trace.proofs.Each.{each_append, each_more, each_in, in_append, values_at, values_set, values_inserted}
use Rattle.cluster_trace.proofs.Right.{all_right}
use Rattle.cluster_laws.specs.Laws.{PresentsForged, IsForgery, NothingIsForged, Rests, AllRest, WasGranted}

-- ---- more grants

rests_more : (rows more : List LedgerRow) (entry : AccessRecord) → Rests rows entry → Rests (rows ++ more) entry
rests_more rows more entry rests = (rests.0, in_append rests.0 rows more rests.1, rests.2)

all_more : (rows more : List LedgerRow) (nodes : List (ℕ × DataNode)) → AllRest rows nodes → AllRest (rows ++ more) nodes
all_more rows more nodes all =
    each_more (λ (own : ℕ × DataNode). AllByRecursion (Rests rows) own.1.log) (λ (own : ℕ × DataNode). AllByRecursion (Rests (rows ++ more)) own.1.log)
    (λ own. each_more (Rests rows) (Rests (rows ++ more)) (rests_more rows more) own.1.log) nodes all

-- ---- one call

differ : (told : NodeReply) (refusal : NodeRefusal) → Err refusal ≡ Ok told → ⊥
differ told refusal e = cc

presented_noted : (node : DataNode) (clock : ℕ) (own : Presented) (asked : TokenCall) (told : NodeReply) → (presented_answer node clock own asked).result ≡ Ok told
    → (presented_after node clock own asked).log ≡ node.log ++ record_of node.id clock own asked (held_at own.block node.blocks) ∷ []
unfolding presented_answer presented_after
presented_noted node clock own asked told e = by (call_refusal node clock own asked) e
  where
    by : (refused : Option NodeRefusal) → (told_by node own asked refused).result ≡ Ok told → (presented_by node clock own asked refused).log ≡ node.log ++ record_of node.id clock own asked (held_at own.block node.blocks) ∷ []
    by (Some refusal) h = absurd (differ told refusal h)
    by None h = refl

pub noted : (node : DataNode) (now : ℕ) (presented : Presented) (asked : TokenCall) (told : NodeReply) → (node_answer node now (Presenting presented asked)).result ≡ Ok told
    → (node_after node now (Presenting presented asked)).log ≡ node.log ++ record_of node.id (clock_with node now) (asked_by node.id presented asked) asked (held_at (asked_by node.id presented asked).block node.blocks) ∷ []
unfolding node_answer node_after
noted node now presented asked told e = presented_noted node (clock_with node now) (asked_by node.id presented asked) asked told e

module _ (state : Cluster) (now : ℕ) (node : DataNode) (old : AllByRecursion (Rests (ledger_in state)) node.log) where
  -- where it presents a token
  presented_rests : (given own : Presented) (asked : TokenCall) (result : Result NodeReply NodeRefusal) → (presented_answer node (clock_with node now) own asked).result ≡ result
      → (IsForged state given.token → ⊥) → ((told : NodeReply) → result ≡ Ok told → IsGranted state (clock_with node now) own asked ⊎ IsForged state given.token)
      → AllByRecursion (Rests (ledger_in state)) (presented_after node (clock_with node now) own asked).log
  unfolding presented_answer presented_after
  presented_rests given own asked result is honest served = by (call_refusal node (clock_with node now) own asked) is
    where
      noted_rests : IsGranted state (clock_with node now) own asked ⊎ IsForged state given.token → AllByRecursion (Rests (ledger_in state)) (node.log ++ record_of node.id (clock_with node now) own asked (held_at own.block node.blocks) ∷ [])
      noted_rests (inl grant) =
          each_append (Rests (ledger_in state)) node.log (record_of node.id (clock_with node now) own asked (held_at own.block node.blocks) ∷ []) old
          ((grant.0, grant.1, record { token = grant.2.token; user = grant.2.user; block = grant.2.block; mode = grant.2.mode; in_time = grant.2.in_time }), tt)
      noted_rests (inr forged) = absurd (honest forged)

      by : (refused : Option NodeRefusal) → (told_by node own asked refused).result ≡ result → AllByRecursion (Rests (ledger_in state)) (presented_by node (clock_with node now) own asked refused).log
      by (Some refusal) e = old
      by None e = noted_rests (served _ (sym e))

  covered_where : (given : Presented) (asked : TokenCall) (told : NodeReply) (result : Result NodeReply NodeRefusal) → IsCoveredWhere state now (Some node) (Presenting given asked) (Called result) → result ≡ Ok told
      → IsGranted state (clock_with node now) (asked_by node.id given asked) asked ⊎ IsForged state given.token
  covered_where given asked told (Ok other) served e = served
  covered_where given asked told (Err refusal) served e = absurd (differ told refusal e)

  call_rests : (asked : NodeCall) → (PresentsForged state asked → ⊥) → IsCoveredWhere state now (Some node) asked (Called (node_answer node now asked).result) → AllByRecursion (Rests (ledger_in state)) (node_after node now asked).log
  unfolding node_answer node_after
  call_rests (Presenting given asked) honest served =
      presented_rests given (asked_by node.id given asked) asked (presented_answer node (clock_with node now) (asked_by node.id given asked) asked).result refl honest
      (λ told e. covered_where given asked told (presented_answer node (clock_with node now) (asked_by node.id given asked) asked).result served e)
  call_rests (Keys update) honest served = old
  call_rests (Invalidate block stamp) honest served = by (removal_refusal stamp (held_at block node.blocks).replica)
    where
      by : (refused : Option ReplicaRefusal) → AllByRecursion (Rests (ledger_in state)) (removed_by node block refused).log
      by (Some refusal) = old
      by None = old

-- ---- every event

abbrev LeavesRest : Cluster → Happened → Type 0
LeavesRest state what = AllRest (ledger_of state.opening what.entries) what.nodes

named_rest : (state : Cluster) (request : Request) → AllRest (ledger_in state) state.nodes → LeavesRest state (request_named state request)
named_rest state request all =
    let entry = entry_of state request in
    all_more (ledger_in state) (rows_granted entry.place (ring_of state.opening state.entries) (clock_of (entry ∷ state.entries)) entry.request.caller entry.request.op entry.verdict) state.nodes all

called_rest : (state : Cluster) (id now : ℕ) (asked : NodeCall) (found : Option DataNode) → entry_at id state.nodes ≡ found → AllRest (ledger_in state) state.nodes → (PresentsForged state asked → ⊥)
    → IsCoveredWhere state now found asked (called_at state id now asked found).answer → LeavesRest state (called_at state id now asked found)
called_rest state id now asked None e all honest served = all
called_rest state id now asked (Some node) e all honest served =
    let own : AllByRecursion (Rests (ledger_in state)) node.log = values_at (λ (node : DataNode). AllByRecursion (Rests (ledger_in state)) node.log) state.nodes id node all e in
    values_set (λ (node : DataNode). AllByRecursion (Rests (ledger_in state)) node.log) state.nodes id (node_after node now asked) all (call_rests state now node own asked honest served)

led_rest : (state : Cluster) (id : ℕ) (asked : PlanCall) → AllRest (ledger_in state) state.nodes → LeavesRest state (leader_called state id asked)
led_rest state id asked all = by (entry_at id state.plans)
  where
    by : (found : Option PlanTable) → LeavesRest state (led_at state id asked found)
    by None = all
    by (Some plans) = all

delivered_rest : (state : Cluster) (now : ℕ) (found : Option Message) → AllRest (ledger_in state) state.nodes → (IsForgery state (call_brought now found) → ⊥) → IsServedRightly state (call_brought now found) (message_delivered state now found).answer
    → LeavesRest state (message_delivered state now found)
delivered_rest state now None all honest served = all
delivered_rest state now (Some (message.Node node asked)) all honest served = called_rest state node now asked (entry_at node state.nodes) refl all honest served
delivered_rest state now (Some (message.Plan node asked)) all honest served = led_rest state node asked all
delivered_rest state now (Some (message.Reported node block stamp bytes)) all honest served = named_rest state (report_request node now block stamp bytes) all
delivered_rest state now (Some (message.CommitRecovery node block stamp bytes others)) all honest served = named_rest state (commit_request node now block stamp bytes others) all

event_rest : (state : Cluster) (event : Event) → AllRest (ledger_in state) state.nodes → (IsForgery state (call_of state event) → ⊥) → IsServedRightly state (call_of state event) (event_happened state event).answer → LeavesRest state (event_happened state event)
event_rest state (Name request) all honest served = by (is_from_outside request.op)
  where
    by : (b : Bool) → LeavesRest state (cond b (request_named state request) (event_lost state NotFromOutside))
    by true = named_rest state request all
    by false = all
event_rest state (Deliver number now) all honest served = delivered_rest state now (message_at number state.messages) all honest served
event_rest state (Data node now asked) all honest served = delivered_rest state now (Some (as_message node asked)) all honest served

start_rests : (rows : List LedgerRow) (limit : ℕ) (ids : List ℕ) (nodes : List (ℕ × DataNode)) → AllRest rows nodes → AllRest rows (fold (with_new_node limit) nodes ids)
start_rests rows limit [] nodes all = all
start_rests rows limit (id ∷ ids) nodes all = start_rests rows limit ids (with_new_node limit nodes id) (values_inserted (λ (node : DataNode). AllByRecursion (Rests rows) node.log) nodes id (new_node limit id) all tt)

rest_where : (opening : ClusterOpening) (events : List Event) → AllRight opening events → NothingIsForged opening events → AllRest (ledger_in (after opening events)) (after opening events).nodes
rest_where opening [] right honest = start_rests [] opening.name.config.replica_limit opening.nodes [] tt
rest_where opening (event ∷ earlier) right honest = event_rest (after opening earlier) event (rest_where opening earlier right.1 honest.1) honest.0 right.0.served

pub records_rest : (opening : ClusterOpening) (events : List Event) → AreTyped opening events → NothingIsForged opening events → AllRest (ledger_in (after opening events)) (after opening events).nodes
records_rest opening events typed honest = rest_where opening events (all_right opening events typed) honest

pub strangers : (opening : ClusterOpening) (events : List Event) (user : List ℕ) (block id : ℕ) (node : DataNode) (entry : AccessRecord) → AreTyped opening events → NothingIsForged opening events
    → (WasGranted (after opening events) user block → ⊥) → entry_at id (after opening events).nodes ≡ Some node → IsIn entry node.log → entry.caller ≡ user → entry.block ≡ block → ⊥
strangers opening events user block id node entry typed honest never at stands caller own =
    let state = after opening events in
    let log : AllByRecursion (Rests (ledger_in state)) node.log = values_at (λ (node : DataNode). AllByRecursion (Rests (ledger_in state)) node.log) state.nodes id node (records_rest opening events typed honest) at in
    let rests : Rests (ledger_in state) entry = each_in (Rests (ledger_in state)) node.log entry log stands in
    never (rests.0, rests.1, rests.2.user ∙ caller, rests.2.block ∙ own)
