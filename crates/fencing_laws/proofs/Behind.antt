-- What an event leaves of the DataNodes and of the recoveries that they lead: all is as before, or one of them is another.
use Rattle.std.proofs.Common.{◌≡◌, ℕ, Bool, true, false, ◌⊎◌, inl, inr, List, [], ◌∷◌, ◌++◌, Option, Some, None, refl, sym, ap, ◌∙◌, subst, cond}
use Rattle.std.proofs.lemmas.Map.{lookup-set_value}
use Rattle.std.specs.Cmp.{eq_by_cmp_equiv, nat_cmp_total}
use Rattle.std.specs.Map.{set_value}
use Rattle.std.specs.Option.{is_some}
use Rattle.block_records.specs.Numbers.{is_number, entry_at}
use Rattle.block_records.proofs.Numbers.{number_is}
use Rattle.hdfs_types.specs.declared.op.Request.{Request}
use Rattle.node_calls.specs.declared.call.NodeCall.{NodeCall}
use Rattle.node_calls.specs.declared.call.PlanCall.{PlanCall}
use Rattle.node_calls.specs.declared.message.Message.{Message}
use Rattle.node_calls.specs.declared.message.Message.TheVariants as message
use Rattle.datanode.specs.NodeStep.{DataNode, node_after}
use Rattle.block_recovery.specs.Plans.{PlanTable}
use Rattle.plan_steps.specs.PlanStep.{plans_after}
use Rattle.cluster_trace.specs.DataCall.{as_message}
use Rattle.cluster_trace.specs.Trace.{Cluster, ClusterOpening, start, event_lost, request_named, called_at, led_at, message_delivered, message_at, is_from_outside, event_happened, after}
use Rattle.cluster_trace.specs.declared.event.Event.{Event}
use Rattle.cluster_trace.specs.declared.event.Event.TheVariants.{Name, Deliver, Data}
use Rattle.cluster_trace.specs.declared.outcome.ClusterRefusal.TheVariants.{NotFromOutside}
use Rattle.cluster_trace.proofs.Each.{some_is}

-- what a look-up finds where a value that was there is another
pub set_there : {X : Type 0} (k q : ℕ) (v w : X) (es : List (ℕ × X)) → entry_at k es ≡ Some v → entry_at q (set_value (is_number k) es w) ≡ cond (is_number k q) (Some w) (entry_at q es)
set_there k q v w es found =
    lookup-set_value (eq_by_cmp_equiv nat_cmp_total) (is_number k) (λ x y at. ap (λ n. is_number n y) (number_is k x at)) q w es (ap is_some found)

-- ---- the DataNodes

pub record NodeBehind (state : Cluster) (nodes : List (ℕ × DataNode)) : Type 0 where
  pub id : ℕ
  pub now : ℕ
  pub asked : NodeCall
  pub own : DataNode
  pub there : entry_at id state.nodes ≡ Some own
  pub is : nodes ≡ set_value (is_number id) state.nodes (node_after own now asked)

abbrev pub NodesBehind : Cluster → List (ℕ × DataNode) → Type 0
NodesBehind state nodes = (nodes ≡ state.nodes) ⊎ NodeBehind state nodes

called_nodes : (state : Cluster) (id now : ℕ) (asked : NodeCall) (found : Option DataNode) → entry_at id state.nodes ≡ found → NodesBehind state (called_at state id now asked found).nodes
called_nodes state id now asked None e = inl refl
called_nodes state id now asked (Some own) e = inr (record { id = id; now = now; asked = asked; own = own; there = e; is = refl })

led_nodes : (state : Cluster) (id : ℕ) (asked : PlanCall) (found : Option PlanTable) → (led_at state id asked found).nodes ≡ state.nodes
led_nodes state id asked None = refl
led_nodes state id asked (Some own) = refl

delivered_nodes : (state : Cluster) (now : ℕ) (found : Option Message) → NodesBehind state (message_delivered state now found).nodes
delivered_nodes state now None = inl refl
delivered_nodes state now (Some (message.Node node asked)) = called_nodes state node now asked (entry_at node state.nodes) refl
delivered_nodes state now (Some (message.Plan node asked)) = inl (led_nodes state node asked (entry_at node state.plans))
delivered_nodes state now (Some (message.Reported node block stamp bytes)) = inl refl
delivered_nodes state now (Some (message.CommitRecovery node block stamp bytes nodes)) = inl refl

asked_nodes : (state : Cluster) (request : Request) (outside : Bool) → NodesBehind state (cond outside (request_named state request) (event_lost state NotFromOutside)).nodes
asked_nodes state request true = inl refl
asked_nodes state request false = inl refl

pub event_nodes : (state : Cluster) (event : Event) → NodesBehind state (event_happened state event).nodes
event_nodes state (Name request) = asked_nodes state request (is_from_outside request.op)
event_nodes state (Deliver number now) = delivered_nodes state now (message_at number state.messages)
event_nodes state (Data node now asked) = delivered_nodes state now (Some (as_message node asked))

-- ---- what they lead

pub record PlanBehind (state : Cluster) (plans : List (ℕ × PlanTable)) : Type 0 where
  pub id : ℕ
  pub asked : PlanCall
  pub own : PlanTable
  pub there : entry_at id state.plans ≡ Some own
  pub is : plans ≡ set_value (is_number id) state.plans (plans_after asked own)

abbrev pub PlansBehind : Cluster → List (ℕ × PlanTable) → Type 0
PlansBehind state plans = (plans ≡ state.plans) ⊎ PlanBehind state plans

called_plans : (state : Cluster) (id now : ℕ) (asked : NodeCall) (found : Option DataNode) → (called_at state id now asked found).plans ≡ state.plans
called_plans state id now asked None = refl
called_plans state id now asked (Some own) = refl

led_plans : (state : Cluster) (id : ℕ) (asked : PlanCall) (found : Option PlanTable) → entry_at id state.plans ≡ found → PlansBehind state (led_at state id asked found).plans
led_plans state id asked None e = inl refl
led_plans state id asked (Some own) e = inr (record { id = id; asked = asked; own = own; there = e; is = refl })

delivered_plans : (state : Cluster) (now : ℕ) (found : Option Message) → PlansBehind state (message_delivered state now found).plans
delivered_plans state now None = inl refl
delivered_plans state now (Some (message.Node node asked)) = inl (called_plans state node now asked (entry_at node state.nodes))
delivered_plans state now (Some (message.Plan node asked)) = led_plans state node asked (entry_at node state.plans) refl
delivered_plans state now (Some (message.Reported node block stamp bytes)) = inl refl
delivered_plans state now (Some (message.CommitRecovery node block stamp bytes nodes)) = inl refl

asked_plans : (state : Cluster) (request : Request) (outside : Bool) → PlansBehind state (cond outside (request_named state request) (event_lost state NotFromOutside)).plans
asked_plans state request true = inl refl
asked_plans state request false = inl refl

pub event_plans : (state : Cluster) (event : Event) → PlansBehind state (event_happened state event).plans
event_plans state (Name request) = asked_plans state request (is_from_outside request.op)
event_plans state (Deliver number now) = delivered_plans state now (message_at number state.messages)
event_plans state (Data node now asked) = delivered_plans state now (Some (as_message node asked))

-- ---- what every call keeps of a DataNode, every event keeps

module _ (node : ℕ) (Q : DataNode → Type 0) (keeps : (own : DataNode) (now : ℕ) (asked : NodeCall) → Q own → Q (node_after own now asked)) where
  abbrev pub Holds : List (ℕ × DataNode) → Type 0
  Holds nodes = (own : DataNode) → entry_at node nodes ≡ Some own → Q own

  behind_holds : (state : Cluster) (nodes : List (ℕ × DataNode)) → NodesBehind state nodes → Holds state.nodes → Holds nodes
  behind_holds state nodes (inl same) holds = λ own e. holds own (ap (entry_at node) (sym same) ∙ e)
  behind_holds state nodes (inr b) holds = λ own e. by (is_number b.id node) refl own (sym (ap (entry_at node) b.is ∙ set_there b.id node b.own (node_after b.own b.now b.asked) state.nodes b.there) ∙ e)
    where
      by : (x : Bool) → is_number b.id node ≡ x → (own : DataNode) → cond x (Some (node_after b.own b.now b.asked)) (entry_at node state.nodes) ≡ Some own → Q own
      by true at own is =
          subst Q (some_is (node_after b.own b.now b.asked) own is) (keeps b.own b.now b.asked (holds b.own (ap (λ n. entry_at n state.nodes) (sym (number_is b.id node at)) ∙ b.there)))
      by false at own is = holds own is

  pub event_holds : (state : Cluster) (event : Event) → Holds state.nodes → Holds (event_happened state event).nodes
  event_holds state event holds = behind_holds state (event_happened state event).nodes (event_nodes state event) holds

  pub later_holds : (opening : ClusterOpening) (later earlier : List Event) → Holds (after opening earlier).nodes → Holds (after opening (later ++ earlier)).nodes
  later_holds opening [] earlier holds = holds
  later_holds opening (event ∷ later) earlier holds = event_holds (after opening (later ++ earlier)) event (later_holds opening later earlier holds)

  pub always_holds : (opening : ClusterOpening) (events : List Event) → Holds (start opening).nodes → Holds (after opening events).nodes
  always_holds opening [] holds = holds
  always_holds opening (event ∷ events) holds = event_holds (after opening events) event (always_holds opening events holds)
