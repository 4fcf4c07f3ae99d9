-- What happens appends to the NameNode's history, and an event that is lost changes nothing.
use Rattle.std.proofs.Common.{◌≡◌, ℕ, Bool, true, false, cond, List, [], ◌∷◌, ◌++◌, refl, sym, ap, ◌∙◌, append_assoc, append-nil, Option, Some, None}
use Rattle.block_records.specs.Numbers.{entry_at}
use Rattle.hdfs_types.specs.declared.op.Request.{Request}
use Rattle.history.specs.declared.entry.HistoryEntry.{HistoryEntry}
use Rattle.node_calls.specs.declared.call.NodeCall.{NodeCall}
use Rattle.node_calls.specs.declared.call.PlanCall.{PlanCall}
use Rattle.node_calls.specs.declared.message.Message.{Message}
use Rattle.node_calls.specs.declared.message.Message.TheVariants as message
use Rattle.datanode.specs.NodeStep.{DataNode}
use Rattle.block_recovery.specs.Plans.{PlanTable}
use Rattle.cluster_trace.specs.DataCall.{as_message}
use Rattle.cluster_trace.specs.Provenance.{IsRuled, request_made}
use Rattle.cluster_trace.specs.Trace.{Cluster, ClusterOpening, Happened, event_lost, request_named, entry_of, called_at, led_at, message_at, message_delivered, is_from_outside, event_happened, left_by, after}
use Rattle.cluster_trace.specs.declared.event.Event.{Event}
use Rattle.cluster_trace.specs.declared.event.Event.TheVariants.{Name, Deliver, Data}
use Rattle.cluster_trace.specs.declared.outcome.ClusterRefusal.{ClusterRefusal}
use Rattle.cluster_trace.specs.declared.outcome.ClusterRefusal.TheVariants.{NoMessage, NoNode, NotFromOutside}
use Rattle.cluster_trace.specs.declared.outcome.EventAnswer.{EventAnswer}
use Rattle.cluster_trace.specs.declared.outcome.EventAnswer.TheVariants.{Named, Lost}
use Rattle.cluster_trace.proofs.Right.{event_ruled}
use Rattle.cluster_laws.specs.Laws.{HistoriesOnlyGrow, LostEventsChangeNothing}

-- ---- the history

grows_by : (state : Cluster) (request : Option Request) (what : Happened) → IsRuled state request what → (more : List HistoryEntry) × (what.entries ≡ more ++ state.entries)
grows_by state None what ruled = ([], ruled)
grows_by state (Some request) what ruled = (entry_of state request ∷ [], ruled.1)

pub grow : HistoriesOnlyGrow
grow opening [] earlier = ([], refl)
grow opening (event ∷ later) earlier =
    let state : Cluster = after opening (later ++ earlier) in
    let own = grows_by state (request_made state event) (event_happened state event) (event_ruled state event) in
    let before = grow opening later earlier in
    (own.0 ++ before.0, own.1 ∙ ap (λ entries. own.0 ++ entries) before.1 ∙ sym (append_assoc own.0 before.0 (after opening earlier).entries))

-- ---- an event that is lost

-- it is not answered otherwise
abbrev IsAnswered : EventAnswer → Type 0
IsAnswered answer = (refusal : ClusterRefusal) → answer ≡ Lost refusal → ⊥

named : (place : ℕ) → IsAnswered (Named place)
named place refusal e = cc

abbrev StaysWhereLost : Cluster → Happened → Type 0
StaysWhereLost state what = (refusal : ClusterRefusal) → what.answer ≡ Lost refusal → (left_by state what ≡ state) × (what.sent ≡ [])

lost_stays : (state : Cluster) (own : ClusterRefusal) → StaysWhereLost state (event_lost state own)
lost_stays state own refusal e = (ap (λ messages. record state { messages = messages }) (append-nil state.messages), refl)

answered_stays : (state : Cluster) (what : Happened) → IsAnswered what.answer → StaysWhereLost state what
answered_stays state what answered refusal e = absurd (answered refusal e)

called_stays : (state : Cluster) (id now : ℕ) (asked : NodeCall) (found : Option DataNode) → StaysWhereLost state (called_at state id now asked found)
called_stays state id now asked None = lost_stays state NoNode
called_stays state id now asked (Some node) = answered_stays state (called_at state id now asked (Some node)) (λ refusal e. cc)

led_stays : (state : Cluster) (id : ℕ) (asked : PlanCall) (found : Option PlanTable) → StaysWhereLost state (led_at state id asked found)
led_stays state id asked None = lost_stays state NoNode
led_stays state id asked (Some plans) = answered_stays state (led_at state id asked (Some plans)) (λ refusal e. cc)

named_stays : (state : Cluster) (request : Request) → StaysWhereLost state (request_named state request)
named_stays state request = answered_stays state (request_named state request) (named (entry_of state request).place)

delivered_stays : (state : Cluster) (now : ℕ) (found : Option Message) → StaysWhereLost state (message_delivered state now found)
delivered_stays state now None = lost_stays state NoMessage
delivered_stays state now (Some (message.Node node asked)) = called_stays state node now asked (entry_at node state.nodes)
delivered_stays state now (Some (message.Plan node asked)) = led_stays state node asked (entry_at node state.plans)
delivered_stays state now (Some (message.Reported node block stamp bytes)) = named_stays state _
delivered_stays state now (Some (message.CommitRecovery node block stamp bytes nodes)) = named_stays state _

asked_stays : (state : Cluster) (request : Request) (outside : Bool) → StaysWhereLost state (cond outside (request_named state request) (event_lost state NotFromOutside))
asked_stays state request true = named_stays state request
asked_stays state request false = lost_stays state NotFromOutside

pub lost : LostEventsChangeNothing
lost state (Name request) = asked_stays state request (is_from_outside request.op)
lost state (Deliver number now) = delivered_stays state now (message_at number state.messages)
lost state (Data node now asked) = delivered_stays state now (Some (as_message node asked))
