-- How long a grant serves.
use Rattle.std.proofs.Common.{◌≡◌, ℕ, ◌≤◌, Bool, true, false, cond, ◌⊎◌, inl, inr, List, [], ◌∷◌, ◌++◌, refl, sym, ap, ◌∙◌, subst, Option, Some, None, Ok, arith}
use Rattle.std.specs.List.{AllByRecursion}
use Rattle.block_records.specs.Numbers.{entry_at}
use Rattle.block_tokens.specs.TokenText.{Body, TokenText}
use Rattle.block_tokens.proofs.Taking.{parts_told}
use Rattle.grant_ledger.specs.declared.ledger.LedgerRow.{LedgerRow}
use Rattle.node_calls.specs.declared.call.NodeCall.{NodeCall}
use Rattle.node_calls.specs.declared.call.NodeCall.TheVariants.{Presenting}
use Rattle.node_calls.specs.declared.call.PlanCall.{PlanCall}
use Rattle.node_calls.specs.declared.call.PlanCall.TheVariants as plan
use Rattle.node_calls.specs.declared.call.TokenCall.{TokenCall}
use Rattle.node_calls.specs.declared.call.TokenCall.TheVariants as asks
use Rattle.node_calls.specs.declared.message.Message.{Message}
use Rattle.node_calls.specs.declared.message.Message.TheVariants as message
use Rattle.call_parts.specs.declared.presented.Presented.{Presented}
use Rattle.node_calls.specs.declared.reply.NodeReply.{NodeReply}
use Rattle.replicas.specs.Asking.{asked_by, sends_copy}
use Rattle.node_ids.specs.NodeId.{node_principal}
use Rattle.hdfs_types.specs.declared.op.Request.{Request}
use Rattle.datanode.specs.NodeStep.{DataNode, clock_with}
use Rattle.block_recovery.specs.Plans.{PlanTable}
use Rattle.cluster_trace.specs.DataCall.{DataCall, as_message, BeginWrite, Packet, Finalize, Read, Decide, Commit}
use Rattle.cluster_trace.specs.Provenance.{IsIn, ledger_in, IsForged, IsGranted, IsCovered, IsCoveredWhere, CallAt, call_of, IsServedRightly}
use Rattle.cluster_trace.specs.Trace.{Cluster, ClusterOpening, event_lost, request_named, node_called, called_at, leader_called, led_at, message_at, message_delivered, is_from_outside, event_happened, after}
use Rattle.cluster_trace.specs.Typed.{GrantFits, AreTyped}
use Rattle.cluster_trace.specs.declared.event.Event.{Event}
use Rattle.cluster_trace.specs.declared.event.Event.TheVariants.{Name, Deliver, Data}
use Rattle.cluster_trace.specs.declared.outcome.ClusterRefusal.TheVariants.{NotFromOutside}
use Rattle.cluster_trace.specs.declared.outcome.EventAnswer.{EventAnswer}
use Rattle.cluster_trace.specs.declared.outcome.EventAnswer.TheVariants.{Called}
use Rattle.cluster_trace.proofs.Each.{each_in}
use Rattle.cluster_trace.proofs.Right.{all_right}
use Rattle.cluster_trace.proofs.Tokens.{RowIssued, TellsItself, parts_of, issued_tells, all_issued}
use Rattle.cluster_laws.specs.Laws.{IsForNameNode, AsksNameNode, AreRequests}

-- ---- rights that are gone

request_leaves : (state : Cluster) (b : Bool) (request : Request) → (cond b (request_named state request) (event_lost state NotFromOutside)).nodes ≡ state.nodes
request_leaves state true request = refl
request_leaves state false request = refl

message_leaves : (state : Cluster) (now : ℕ) (found : Option Message) → IsForNameNode found → (message_delivered state now found).nodes ≡ state.nodes
message_leaves state now None asks = refl
message_leaves state now (Some (message.Node node asked)) asks = absurd asks
message_leaves state now (Some (message.Plan node asked)) asks = absurd asks
message_leaves state now (Some (message.Reported node block stamp bytes)) asks = refl
message_leaves state now (Some (message.CommitRecovery node block stamp bytes nodes)) asks = refl

event_leaves : (state : Cluster) (event : Event) → AsksNameNode state event → (event_happened state event).nodes ≡ state.nodes
event_leaves state (Name request) asks = request_leaves state (is_from_outside request.op) request
event_leaves state (Deliver number now) asks = message_leaves state now (message_at number state.messages) asks
event_leaves state (Data node now asked) asks = absurd asks

same_nodes : (opening : ClusterOpening) (requests earlier : List Event) → AreRequests opening earlier requests → (after opening (requests ++ earlier)).nodes ≡ (after opening earlier).nodes
same_nodes opening [] earlier all = refl
same_nodes opening (event ∷ requests) earlier all = event_leaves (after opening (requests ++ earlier)) event all.0 ∙ same_nodes opening requests earlier all.1

request_keeps : (state : Cluster) (b : Bool) (request : Request) → (cond b (request_named state request) (event_lost state NotFromOutside)).plans ≡ state.plans
request_keeps state true request = refl
request_keeps state false request = refl

message_keeps : (state : Cluster) (now : ℕ) (found : Option Message) → IsForNameNode found → (message_delivered state now found).plans ≡ state.plans
message_keeps state now None asks = refl
message_keeps state now (Some (message.Node node asked)) asks = absurd asks
message_keeps state now (Some (message.Plan node asked)) asks = absurd asks
message_keeps state now (Some (message.Reported node block stamp bytes)) asks = refl
message_keeps state now (Some (message.CommitRecovery node block stamp bytes nodes)) asks = refl

event_keeps : (state : Cluster) (event : Event) → AsksNameNode state event → (event_happened state event).plans ≡ state.plans
event_keeps state (Name request) asks = request_keeps state (is_from_outside request.op) request
event_keeps state (Deliver number now) asks = message_keeps state now (message_at number state.messages) asks
event_keeps state (Data node now asked) asks = absurd asks

same_plans : (opening : ClusterOpening) (requests earlier : List Event) → AreRequests opening earlier requests → (after opening (requests ++ earlier)).plans ≡ (after opening earlier).plans
same_plans opening [] earlier all = refl
same_plans opening (event ∷ requests) earlier all = event_keeps (after opening (requests ++ earlier)) event all.0 ∙ same_plans opening requests earlier all.1

answer_by : (state other : Cluster) (id now : ℕ) (asked : NodeCall) (found : Option DataNode) → (called_at state id now asked found).answer ≡ (called_at other id now asked found).answer
answer_by state other id now asked None = refl
answer_by state other id now asked (Some node) = refl

led_by : (state other : Cluster) (id : ℕ) (asked : PlanCall) (found : Option PlanTable) → (led_at state id asked found).answer ≡ (led_at other id asked found).answer
led_by state other id asked None = refl
led_by state other id asked (Some plans) = refl

-- two clusters with the same DataNodes, which lead the same recoveries
module _ (state other : Cluster) (nodes : state.nodes ≡ other.nodes) (plans : state.plans ≡ other.plans) where
  called_same : (id now : ℕ) (asked : NodeCall) → (node_called state id now asked).answer ≡ (node_called other id now asked).answer
  called_same id now asked = ap (λ own. (called_at state id now asked (entry_at id own)).answer) nodes ∙ answer_by state other id now asked (entry_at id other.nodes)

  led_same : (id : ℕ) (asked : PlanCall) → (leader_called state id asked).answer ≡ (leader_called other id asked).answer
  led_same id asked = ap (λ own. (led_at state id asked (entry_at id own)).answer) plans ∙ led_by state other id asked (entry_at id other.plans)

  answer_same : (node now : ℕ) (asked : DataCall) → (message_delivered state now (Some (as_message node asked))).answer ≡ (message_delivered other now (Some (as_message node asked))).answer
  answer_same node now (BeginWrite presented next) = called_same node now (Presenting presented (asks.Begin next))
  answer_same node now (Packet presented offset bytes next) = called_same node now (Presenting presented (asks.Packet offset bytes next))
  answer_same node now (Finalize presented count next) = called_same node now (Presenting presented (asks.Finalize count next))
  answer_same node now (Read presented offset count) = called_same node now (Presenting presented (asks.Read offset count))
  answer_same node now (Decide block stamp) = led_same node (plan.Decide block stamp)
  answer_same node now (Commit block stamp) = led_same node (plan.Commit block stamp)

pub outlive : (opening : ClusterOpening) (requests earlier : List Event) (node now : ℕ) (asked : DataCall) → AreRequests opening earlier requests
    → (event_happened (after opening (requests ++ earlier)) (Data node now asked)).answer ≡ (event_happened (after opening earlier) (Data node now asked)).answer
outlive opening requests earlier node now asked all =
    answer_same (after opening (requests ++ earlier)) (after opening earlier) (same_nodes opening requests earlier all) (same_plans opening requests earlier all) node now asked

-- ---- expiries

tells_in : (rows : List LedgerRow) (row : LedgerRow) → AllByRecursion RowIssued rows → AllByRecursion (λ (own : LedgerRow). GrantFits own.grant) rows → IsIn row rows → TellsItself row.grant
tells_in rows row issued fits i = issued_tells row.grant (each_in RowIssued rows row issued i) (each_in (λ (own : LedgerRow). GrantFits own.grant) rows row fits i)

-- rows with one token have one expiry
same_expiry : (row other : LedgerRow) → TellsItself row.grant → TellsItself other.grant → row.grant.token ≡ other.grant.token → row.grant.expiry ≡ other.grant.expiry
same_expiry row other tells others is =
    ap (λ (parts : Body). parts.expiry)
    (parts_told other.grant.token (parts_of row.grant tells.0) (parts_of other.grant others.0) (subst (λ token. TokenText token (parts_of row.grant tells.0)) is tells.1) others.1)

served_in : (state : Cluster) (asked : CallAt) (presented : Presented) (call : TokenCall) (node : DataNode) (answer : EventAnswer) (told : NodeReply) → IsServedRightly state (Some asked) answer → answer ≡ Called (Ok told)
    → asked.call ≡ Presenting presented call → entry_at asked.node state.nodes ≡ Some node → IsGranted state (clock_with node asked.now) (asked_by node.id presented call) call ⊎ IsForged state presented.token
served_in state asked presented call node answer told served is calls at =
    let a : IsCovered state asked.now (entry_at asked.node state.nodes) asked.call = subst (λ own. IsCoveredWhere state asked.now (entry_at asked.node state.nodes) asked.call own) is served in
    let b : IsCovered state asked.now (Some node) asked.call = subst (λ found. IsCovered state asked.now found asked.call) at a in
    subst (λ own. IsCovered state asked.now (Some node) own) calls b

own_token : (b : Bool) (given : Presented) (principal : List ℕ) → (cond b (record given { caller = principal }) given).token ≡ given.token
own_token true given principal = refl
own_token false given principal = refl

same_token : (node : DataNode) (presented : Presented) (call : TokenCall) → (asked_by node.id presented call).token ≡ presented.token
same_token node presented call = own_token (sends_copy call) presented (node_principal node.id)

pub end : (opening : ClusterOpening) (events : List Event) (event : Event) (row : LedgerRow) (asked : CallAt) (presented : Presented) (call : TokenCall) (node : DataNode) (told : NodeReply)
    → AreTyped opening (event ∷ events) → call_of (after opening events) event ≡ Some asked → asked.call ≡ Presenting presented call → entry_at asked.node (after opening events).nodes ≡ Some node
    → IsIn row (ledger_in (after opening events)) → row.grant.token ≡ presented.token → row.grant.expiry ≤ clock_with node asked.now
    → (event_happened (after opening events) event).answer ≡ Called (Ok told) → ⊥
end opening events event row asked presented call node told typed called calls at stands token expired served =
    by (served_in (after opening events) asked presented call node (event_happened (after opening events) event).answer told
    (subst (λ found. IsServedRightly (after opening events) found (event_happened (after opening events) event).answer) called (all_right opening (event ∷ events) typed).0.served) served calls at)
  where
    tells : (own : LedgerRow) → IsIn own (ledger_in (after opening events)) → TellsItself own.grant
    tells own i = tells_in (ledger_in (after opening events)) own (all_issued (after opening events).opening (after opening events).entries) typed.0.grants i

    by : IsGranted (after opening events) (clock_with node asked.now) (asked_by node.id presented call) call ⊎ IsForged (after opening events) presented.token → ⊥
    by (inl grant) =
        let other : LedgerRow = grant.0 in
        let same : row.grant.token ≡ other.grant.token = token ∙ sym (same_token node presented call) ∙ sym grant.2.token in
        let expiry : row.grant.expiry ≡ other.grant.expiry = same_expiry row other (tells row stands) (tells other grant.1) same in
        absurd (omega (arith, grant.2.in_time, expiry, expired))
    by (inr forged) = forged.not_granted row stands token
