-- What was promised stays, and no replica falls below the stamp of one before it.
use Rattle.std.proofs.Common.{◌≡◌, ℕ, ◌≤◌, List, [], ◌∷◌, ◌++◌, Option, Some, None, refl, sym, ap, ◌∙◌, subst, fold, arith}
use Rattle.std.specs.Prelude.{option_map}
use Rattle.block_records.specs.Numbers.{entry_at}
use Rattle.node_calls.specs.declared.call.NodeCall.{NodeCall}
use Rattle.replica_steps.specs.ReplicaStep.{held_at}
use Rattle.replica_steps.specs.declared.held.Held.{Held}
use Rattle.replica_steps.specs.declared.replica.Replica.{Replica}
use Rattle.datanode.specs.NodeStep.{DataNode, node_after}
use Rattle.datanode.specs.Kept.{IsBelow}
use Rattle.datanode.specs.Laws.{StandBelow}
use Rattle.datanode.proofs.Nodes as one_call
use Rattle.cluster_trace.specs.Trace.{Cluster, ClusterOpening, start, new_node, with_new_node, after}
use Rattle.cluster_trace.specs.declared.event.Event.{Event}
use Rattle.cluster_trace.proofs.Each.{some_is, never_some, AllValues, values_at, values_inserted}
use Rattle.fencing_laws.specs.Fencing.{held_in, PromisesStay, StampsStay}
use Rattle.fencing_laws.proofs.Behind.{Holds, later_holds, always_holds}
use Rattle.fencing_laws.proofs.Stamps.{IsAtLeast, AtLeast, rises}

-- the DataNode that holds it
pub record HeldBy (state : Cluster) (node block : ℕ) (held : Held) : Type 0 where
  pub own : DataNode
  pub there : entry_at node state.nodes ≡ Some own
  pub is : held_at block own.blocks ≡ held

pub held_by : (state : Cluster) (node block : ℕ) (held : Held) → held_in state node block ≡ Some held → HeldBy state node block held
held_by state node block held e = by (entry_at node state.nodes) refl e
  where
    by : (found : Option DataNode) → entry_at node state.nodes ≡ found → option_map (λ (own : DataNode). held_at block own.blocks) found ≡ Some held → HeldBy state node block held
    by None at is = absurd (never_some held is)
    by (Some own) at is = record { own = own; there = at; is = some_is (held_at block own.blocks) held is }

-- ---- promises

abbrev pub HasPromised : ℕ → ℕ → DataNode → Type 0
HasPromised bound block own = bound ≤ (held_at block own.blocks).promised

pub promise_stays : (bound block : ℕ) (own : DataNode) (now : ℕ) (asked : NodeCall) → HasPromised bound block own → HasPromised bound block (node_after own now asked)
promise_stays bound block own now asked h =
    let low : bound ≤ (held_at block own.blocks).promised = h in
    omega (arith, low, (one_call.after own now asked block).promise)

pub promises_stay : PromisesStay
promises_stay opening later earlier node block before behind first last =
    let a = held_by (after opening earlier) node block before first in
    let b = held_by (after opening (later ++ earlier)) node block behind last in
    subst (λ (held : Held). before.promised ≤ held.promised) b.is
    (later_holds node (HasPromised before.promised block) (promise_stays before.promised block) opening later earlier (start_promised a) b.own b.there)
  where
    start_promised : HeldBy (after opening earlier) node block before → Holds node (HasPromised before.promised block) (promise_stays before.promised block) (after opening earlier).nodes
    start_promised a own e =
        let same : a.own ≡ own = some_is a.own own (sym a.there ∙ e) in
        subst (λ (one : DataNode). before.promised ≤ (held_at block one.blocks).promised) same (subst (λ (held : Held). before.promised ≤ held.promised) (sym a.is) (omega arith))

-- ---- stamps of replicas

pub below_stays : (own : DataNode) (now : ℕ) (asked : NodeCall) → StandBelow own → StandBelow (node_after own now asked)
below_stays own now asked below = λ block. (one_call.after own now asked block).below (below block)

new_below : (limit : ℕ) (ids : List ℕ) (nodes : List (ℕ × DataNode)) → AllValues StandBelow nodes → AllValues StandBelow (fold (with_new_node limit) nodes ids)
new_below limit [] nodes all = all
new_below limit (id ∷ ids) nodes all = new_below limit ids (with_new_node limit nodes id) (values_inserted StandBelow nodes id (new_node limit id) all (λ block. tt))

pub all_below : (opening : ClusterOpening) (events : List Event) (node : ℕ) → Holds node StandBelow below_stays (after opening events).nodes
all_below opening events node =
    always_holds node StandBelow below_stays opening events
    (λ own e. values_at StandBelow (start opening).nodes node own (new_below opening.name.config.replica_limit opening.nodes [] tt) e)

abbrev HasStamp : ℕ → ℕ → DataNode → Type 0
HasStamp bound block own = AtLeast bound (held_at block own.blocks)

stamp_stays : (bound block : ℕ) (own : DataNode) (now : ℕ) (asked : NodeCall) → HasStamp bound block own → HasStamp bound block (node_after own now asked)
stamp_stays bound block own now asked h = rises bound own now asked block h

at_first : (old : Replica) (replica : Option Replica) (promised : ℕ) → replica ≡ Some old → IsBelow promised replica → AtLeast old.stamp (record { replica = replica; promised = promised })
at_first old None promised e below = absurd (never_some old e)
at_first old (Some own) promised e below =
    let same : own.stamp ≡ old.stamp = ap (λ (replica : Replica). replica.stamp) (some_is own old e) in
    let low : own.stamp ≤ promised = below in
    (omega (arith, same, low), omega (arith, same))

at_last : (bound : ℕ) (new : Replica) (replica : Option Replica) → replica ≡ Some new → IsAtLeast bound replica → bound ≤ new.stamp
at_last bound new None e h = absurd (never_some new e)
at_last bound new (Some own) e h = subst (λ (replica : Replica). bound ≤ replica.stamp) (some_is own new e) h

pub stamps_stay : StampsStay
stamps_stay opening later earlier node block before behind old new first held last there =
    let a = held_by (after opening earlier) node block before first in
    let b = held_by (after opening (later ++ earlier)) node block behind last in
    let left : AtLeast old.stamp (held_at block b.own.blocks) = later_holds node (HasStamp old.stamp block) (stamp_stays old.stamp block) opening later earlier (start_stamp a) b.own b.there in
    at_last old.stamp new behind.replica there (subst (AtLeast old.stamp) b.is left).1
  where
    start_stamp : HeldBy (after opening earlier) node block before → Holds node (HasStamp old.stamp block) (stamp_stays old.stamp block) (after opening earlier).nodes
    start_stamp a own e =
        let same : a.own ≡ own = some_is a.own own (sym a.there ∙ e) in
        let replica : (held_at block a.own.blocks).replica ≡ Some old = ap (λ (held : Held). held.replica) a.is ∙ held in
        subst (λ (one : DataNode). AtLeast old.stamp (held_at block one.blocks)) same
        (at_first old (held_at block a.own.blocks).replica (held_at block a.own.blocks).promised replica (all_below opening earlier node a.own a.there block))
