-- Plans stay, over every list of events.
use Rattle.std.proofs.Common.{◌≡◌, ℕ, Bool, true, false, ◌⊎◌, inl, inr, List, [], ◌∷◌, ◌++◌, Option, Some, None, unwrap_or, refl, sym, ap, ◌∙◌, subst, cond, fold}
use Rattle.std.specs.Map.{set_value}
use Rattle.std.specs.Option.{is_some}
use Rattle.block_records.specs.Numbers.{is_number, entry_at}
use Rattle.block_records.proofs.Numbers.{number_is}
use Rattle.block_recovery.specs.Laws as law
use Rattle.block_recovery.specs.Laws.{AreRight, IsRight, Extends}
use Rattle.block_recovery.specs.Plans.{PlanTable, plan_at}
use Rattle.block_recovery.specs.declared.answer.Answer.{Answer}
use Rattle.block_recovery.specs.declared.decision.Decision.{Decision}
use Rattle.recovery_updates.specs.declared.fault.PlanRefusal.{PlanRefusal}
use Rattle.block_recovery.specs.declared.plan.Plan.{Plan}
use Rattle.block_recovery.proofs.Lookups.{lookup_inserted}
use Rattle.block_recovery.proofs.Steps.{extends_itself, stay, stay_right, none_right}
use Rattle.node_calls.specs.declared.call.PlanCall.{PlanCall}
use Rattle.node_calls.specs.declared.call.PlanCall.TheVariants as plan
use Rattle.datanode.specs.NodeStep.{DataNode, node_after}
use Rattle.plan_steps.specs.PlanStep.{recover_of, answer_of, plan_refusal, plans_with, left_unless, plans_after}
use Rattle.cluster_trace.specs.Trace.{Cluster, ClusterOpening, new_node, with_new_node, with_no_plan, event_happened, happens, after}
use Rattle.cluster_trace.specs.declared.event.Event.{Event}
use Rattle.cluster_trace.proofs.Each.{AllValues, values_at, values_set, values_inserted}
use Rattle.fencing_laws.specs.Fencing.{plan_in, NodesLead, PlansStay, PlansAreRight}
use Rattle.fencing_laws.proofs.Behind.{set_there, NodesBehind, event_nodes, PlansBehind, event_plans}

-- ---- one call of one DataNode

-- it leaves its plans as they are, or as a call leaves them that nothing refuses
record Changes (plans left : PlanTable) : Type 0 where
  own : law.Call
  allowed : law.refusal own plans ≡ None
  is : left ≡ law.plans_left_by own plans

abbrev Leaves : PlanTable → PlanTable → Type 0
Leaves plans left = (left ≡ plans) ⊎ Changes plans left

left_by : (asked : PlanCall) (plans : PlanTable) (own : law.Call) → law.refusal own plans ≡ plan_refusal asked plans → plans_with asked plans ≡ law.plans_left_by own plans → Leaves plans (plans_after asked plans)
unfolding plans_after
left_by asked plans own same is = by (plan_refusal asked plans) refl
  where
    by : (refused : Option PlanRefusal) → plan_refusal asked plans ≡ refused → Leaves plans (left_unless asked plans refused)
    by (Some refusal) e = inl refl
    by None e = inr (record { own = own; allowed = same ∙ e; is = is })

committed : (block stamp : ℕ) (plans : PlanTable) → plans_after (plan.Commit block stamp) plans ≡ plans
unfolding plans_after
committed block stamp plans = by (plan_refusal (plan.Commit block stamp) plans)
  where
    by : (refused : Option PlanRefusal) → left_unless (plan.Commit block stamp) plans refused ≡ plans
    by (Some refusal) = refl
    by None = refl

leaves : (asked : PlanCall) (plans : PlanTable) → Leaves plans (plans_after asked plans)
leaves (plan.Recover block stamp nodes token) plans = left_by (plan.Recover block stamp nodes token) plans (law.Begin (recover_of block stamp nodes token)) refl refl
leaves (plan.Reply node block stamp state bytes) plans = left_by (plan.Reply node block stamp state bytes) plans (law.Reply block stamp node (answer_of state bytes)) refl refl
leaves (plan.Decide block stamp) plans = left_by (plan.Decide block stamp) plans (law.Decide block stamp) refl refl
leaves (plan.Updated node block stamp) plans = left_by (plan.Updated node block stamp) plans (law.Updated block stamp node) refl refl
leaves (plan.Commit block stamp) plans = inl (committed block stamp plans)

-- ---- what stays of a plan

decided_still : (plan later : Plan) → Extends plan later → is_some plan.decision ≡ true → is_some later.decision ≡ true
decided_still plan later extends h = by plan.decision refl h
  where
    by : (found : Option Decision) → plan.decision ≡ found → is_some found ≡ true → is_some later.decision ≡ true
    by None e h = cc
    by (Some decision) e h = ap is_some (extends.decision decision e)

pub extends_on : (plan later last : Plan) → Extends plan later → Extends later last → Extends plan last
extends_on plan later last first then = record {
  nodes = then.nodes ∙ first.nodes;
  token = then.token ∙ first.token;
  answers = λ (node : ℕ) (own : Answer) found. then.answers node own (first.answers node own found);
  closed = λ h. then.closed (decided_still plan later first h) ∙ first.closed h;
  decision = λ (decision : Decision) is. then.decision decision (first.decision decision is);
  updated = λ (node : ℕ) h. then.updated node (first.updated node h);
}

pub record Stays (block stamp : ℕ) (plan : Plan) (plans : PlanTable) : Type 0 where
  pub now : Plan
  pub there : plan_at block stamp plans ≡ Some now
  pub extends : Extends plan now

call_stays : (asked : PlanCall) (plans : PlanTable) (block stamp : ℕ) (own : Plan) → plan_at block stamp plans ≡ Some own → Stays block stamp own (plans_after asked plans)
call_stays asked plans block stamp own there = by (leaves asked plans)
  where
    by : Leaves plans (plans_after asked plans) → Stays block stamp own (plans_after asked plans)
    by (inl same) = record { now = own; there = ap (plan_at block stamp) same ∙ there; extends = extends_itself own }
    by (inr changes) =
        let s = stay changes.own plans block stamp own changes.allowed there in
        record { now = s.0; there = ap (plan_at block stamp) changes.is ∙ s.1; extends = s.2 }

call_right : (asked : PlanCall) (plans : PlanTable) → AreRight plans → AreRight (plans_after asked plans)
call_right asked plans right = by (leaves asked plans)
  where
    by : Leaves plans (plans_after asked plans) → AreRight (plans_after asked plans)
    by (inl same) = subst AreRight (sym same) right
    by (inr changes) = subst AreRight (sym changes.is) (stay_right changes.own plans changes.allowed right)

-- ---- one event

abbrev tables_at : ℕ → List (ℕ × PlanTable) → PlanTable
tables_at node plans = unwrap_or (entry_at node plans) []

-- of the node that is called its plans are left so, and of each other its own
behind_stays : (state : Cluster) (plans : List (ℕ × PlanTable)) (node block stamp : ℕ) (own : Plan) → PlansBehind state plans → plan_in state node block stamp ≡ Some own
    → Stays block stamp own (tables_at node plans)
behind_stays state plans node block stamp own (inl same) there =
    record { now = own; there = ap (λ (all : List (ℕ × PlanTable)). plan_at block stamp (tables_at node all)) same ∙ there; extends = extends_itself own }
behind_stays state plans node block stamp own (inr b) there =
    subst (λ (found : Option PlanTable). Stays block stamp own (unwrap_or found [])) (sym (ap (entry_at node) b.is ∙ set_there b.id node b.own (plans_after b.asked b.own) state.plans b.there)) (by (is_number b.id node) refl)
  where
    by : (x : Bool) → is_number b.id node ≡ x → Stays block stamp own (unwrap_or (cond x (Some (plans_after b.asked b.own)) (entry_at node state.plans)) [])
    by true at =
        let found : entry_at node state.plans ≡ Some b.own = ap (λ n. entry_at n state.plans) (sym (number_is b.id node at)) ∙ b.there in
        call_stays b.asked b.own block stamp own (sym (ap (λ (table : Option PlanTable). plan_at block stamp (unwrap_or table [])) found) ∙ there)
    by false at = record { now = own; there = there; extends = extends_itself own }

pub event_stays : (state : Cluster) (event : Event) (node block stamp : ℕ) (own : Plan) → plan_in state node block stamp ≡ Some own → Stays block stamp own (tables_at node (happens state event).plans)
event_stays state event node block stamp own there = behind_stays state (event_happened state event).plans node block stamp own (event_plans state event) there

-- ---- all events

later_stays : (opening : ClusterOpening) (later earlier : List Event) (node block stamp : ℕ) (own : Plan) → plan_in (after opening earlier) node block stamp ≡ Some own
    → Stays block stamp own (tables_at node (after opening (later ++ earlier)).plans)
later_stays opening [] earlier node block stamp own there = record { now = own; there = there; extends = extends_itself own }
later_stays opening (event ∷ later) earlier node block stamp own there =
    let before = later_stays opening later earlier node block stamp own there in
    let now = event_stays (after opening (later ++ earlier)) event node block stamp before.now before.there in
    record { now = now.now; there = now.there; extends = extends_on own before.now now.now before.extends now.extends }

pub plans_stay : PlansStay
plans_stay opening later earlier node block stamp own there =
    let now = later_stays opening later earlier node block stamp own there in
    (now.now, now.there, now.extends)

-- ---- all plans are right

abbrev AllRight : List (ℕ × PlanTable) → Type 0
AllRight plans = AllValues AreRight plans

behind_right : (state : Cluster) (plans : List (ℕ × PlanTable)) → PlansBehind state plans → AllRight state.plans → AllRight plans
behind_right state plans (inl same) all = subst AllRight (sym same) all
behind_right state plans (inr b) all =
    subst AllRight (sym b.is) (values_set AreRight state.plans b.id (plans_after b.asked b.own) all (call_right b.asked b.own (values_at AreRight state.plans b.id b.own all b.there)))

start_right : (ids : List ℕ) (plans : List (ℕ × PlanTable)) → AllRight plans → AllRight (fold with_no_plan plans ids)
start_right [] plans all = all
start_right (id ∷ ids) plans all = start_right ids (with_no_plan plans id) (values_inserted AreRight plans id [] all none_right)

all_right : (opening : ClusterOpening) (events : List Event) → AllRight (after opening events).plans
all_right opening [] = start_right opening.nodes [] tt
all_right opening (event ∷ earlier) = behind_right (after opening earlier) (event_happened (after opening earlier) event).plans (event_plans (after opening earlier) event) (all_right opening earlier)

pub plans_are_right : PlansAreRight
plans_are_right opening events node block stamp own there = by (entry_at node (after opening events).plans) refl there
  where
    by : (found : Option PlanTable) → entry_at node (after opening events).plans ≡ found → plan_at block stamp (unwrap_or found []) ≡ Some own → IsRight own
    by None e is = none_right block stamp own is
    by (Some plans) e is = values_at AreRight (after opening events).plans node plans (all_right opening events) e block stamp own is

-- ---- the DataNodes lead

abbrev Lead : ℕ → List (ℕ × DataNode) → List (ℕ × PlanTable) → Type 0
Lead node nodes plans = is_some (entry_at node nodes) ≡ is_some (entry_at node plans)

-- a value in the place of one that was there
still_there : {X : Type 0} (k q : ℕ) (v w : X) (es : List (ℕ × X)) → entry_at k es ≡ Some v → is_some (entry_at q (set_value (is_number k) es w)) ≡ is_some (entry_at q es)
still_there {X} k q v w es found = ap is_some (set_there k q v w es found) ∙ by (is_number k q) refl
  where
    by : (b : Bool) → is_number k q ≡ b → is_some (cond b (Some w) (entry_at q es)) ≡ is_some (entry_at q es)
    by true at = ap is_some (sym (ap (λ n. entry_at n es) (sym (number_is k q at)) ∙ found))
    by false at = refl

nodes_there : (state : Cluster) (nodes : List (ℕ × DataNode)) (node : ℕ) → NodesBehind state nodes → is_some (entry_at node nodes) ≡ is_some (entry_at node state.nodes)
nodes_there state nodes node (inl same) = ap (λ (all : List (ℕ × DataNode)). is_some (entry_at node all)) same
nodes_there state nodes node (inr b) = ap (λ (all : List (ℕ × DataNode)). is_some (entry_at node all)) b.is ∙ still_there b.id node b.own (node_after b.own b.now b.asked) state.nodes b.there

plans_there : (state : Cluster) (plans : List (ℕ × PlanTable)) (node : ℕ) → PlansBehind state plans → is_some (entry_at node plans) ≡ is_some (entry_at node state.plans)
plans_there state plans node (inl same) = ap (λ (all : List (ℕ × PlanTable)). is_some (entry_at node all)) same
plans_there state plans node (inr b) = ap (λ (all : List (ℕ × PlanTable)). is_some (entry_at node all)) b.is ∙ still_there b.id node b.own (plans_after b.asked b.own) state.plans b.there

start_leads : (limit node : ℕ) (ids : List ℕ) (nodes : List (ℕ × DataNode)) (plans : List (ℕ × PlanTable)) → Lead node nodes plans → Lead node (fold (with_new_node limit) nodes ids) (fold with_no_plan plans ids)
start_leads limit node [] nodes plans lead = lead
start_leads limit node (id ∷ ids) nodes plans lead =
    start_leads limit node ids (with_new_node limit nodes id) (with_no_plan plans id)
    (ap is_some (lookup_inserted id node (new_node limit id) nodes) ∙ (by (is_number node id) ∙ sym (ap is_some (lookup_inserted id node [] plans))))
  where
    by : (b : Bool) → is_some (cond b (Some (new_node limit id)) (entry_at node nodes)) ≡ is_some (cond b (Some []) (entry_at node plans))
    by true = refl
    by false = lead

pub nodes_lead : NodesLead
nodes_lead opening [] node = start_leads opening.name.config.replica_limit node opening.nodes [] [] refl
nodes_lead opening (event ∷ earlier) node =
    let state = after opening earlier in
    nodes_there state (event_happened state event).nodes node (event_nodes state event) ∙ (nodes_lead opening earlier node ∙ sym (plans_there state (event_happened state event).plans node (event_plans state event)))
