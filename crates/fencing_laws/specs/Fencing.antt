-- Old writers stay out once a block is recovered: what a DataNode promised is never taken back, a plan is decided once, and a replica is
-- recovered to the length that a plan decided. All this holds over every list of events, and whatever tokens are forged.
-- (HDFS-265, "Generation stamp" and "Block recovery".)
use Rattle.std.specs.Prelude.{◌≡◌, ℕ, ◌≤◌, true, List, [], ◌∷◌, ◌++◌, Option, Some, Ok, unwrap_or, option_map, is_some}
use Rattle.block_records.specs.Numbers.{has_number, entry_at}
use Rattle.node_ids.specs.NodeId.{node_principal}
use Rattle.node_calls.specs.declared.call.NodeCall.TheVariants.{Presenting}
use Rattle.node_calls.specs.declared.call.TokenCall.{TokenCall}
use Rattle.node_calls.specs.declared.call.TokenCall.TheVariants as call
use Rattle.node_calls.specs.declared.message.Message.TheVariants as message
use Rattle.call_parts.specs.declared.presented.Presented.{Presented}
use Rattle.node_calls.specs.declared.reply.NodeReply.{NodeReply}
use Rattle.replica_steps.specs.ReplicaStep.{held_at}
use Rattle.replica_steps.specs.declared.held.Held.{Held}
use Rattle.replica_steps.specs.declared.replica.Replica.{Replica}
use Rattle.datanode.specs.NodeStep.{DataNode}
use Rattle.block_recovery.specs.Laws.{Extends, IsRight}
use Rattle.block_recovery.specs.Plans.{plan_at}
use Rattle.block_recovery.specs.declared.decision.Decision.{Decision}
use Rattle.block_recovery.specs.declared.plan.Plan.{Plan}
use Rattle.cluster_trace.specs.Provenance.{call_of}
use Rattle.cluster_trace.specs.Trace.{Cluster, ClusterOpening, event_happened, message_at, after}
use Rattle.cluster_trace.specs.declared.event.Event.{Event}
use Rattle.cluster_trace.specs.declared.outcome.EventAnswer.TheVariants.{Called}

-- what a DataNode holds of a block, if there is such a node
abbrev pub held_in : Cluster → ℕ → ℕ → Option Held
held_in state node block = option_map (λ (own : DataNode). held_at block own.blocks) (entry_at node state.nodes)

-- the plan by which a DataNode leads the recovery of a block at a stamp, if it does
abbrev pub plan_in : Cluster → ℕ → ℕ → ℕ → Option Plan
plan_in state node block stamp = plan_at block stamp (unwrap_or (entry_at node state.plans) [])

-- at this event a DataNode serves a call
pub record Serves (opening : ClusterOpening) (earlier : List Event) (event : Event) (node : ℕ) (presented : Presented) (asked : TokenCall) : Type 0 where
  pub now : ℕ
  pub told : NodeReply
  pub asks : call_of (after opening earlier) event ≡ Some (record { node = node; now = now; call = Presenting presented asked })
  pub served : (event_happened (after opening earlier) event).answer ≡ Called (Ok told)

-- ---- what was promised

-- a promised stamp never falls
abbrev pub PromisesStay : Type 0
PromisesStay = (opening : ClusterOpening) (later earlier : List Event) (node block : ℕ) (before behind : Held)
    → held_in (after opening earlier) node block ≡ Some before → held_in (after opening (later ++ earlier)) node block ≡ Some behind → before.promised ≤ behind.promised

-- nor does the stamp of a replica, also where it was removed and there is another one
abbrev pub StampsStay : Type 0
StampsStay = (opening : ClusterOpening) (later earlier : List Event) (node block : ℕ) (before behind : Held) (old new : Replica)
    → held_in (after opening earlier) node block ≡ Some before → before.replica ≡ Some old
    → held_in (after opening (later ++ earlier)) node block ≡ Some behind → behind.replica ≡ Some new → old.stamp ≤ new.stamp

-- once a DataNode has let a recovery begin at a stamp, it takes no packet of the block at a lower one
abbrev pub OldWritersAreFenced : Type 0
OldWritersAreFenced = (opening : ClusterOpening) (later earlier : List Event) (first last : Event) (node offset : ℕ) (begun presented : Presented) (bytes next : List ℕ)
    → begun.block ≡ presented.block → Serves opening earlier first node begun call.InitRecovery
    → Serves opening (later ++ first ∷ earlier) last node presented (call.Packet offset bytes next) → begun.stamp ≤ presented.stamp

-- ---- plans

-- each DataNode may lead recoveries, and nobody else
abbrev pub NodesLead : Type 0
NodesLead = (opening : ClusterOpening) (events : List Event) (node : ℕ) → is_some (entry_at node (after opening events).nodes) ≡ is_some (entry_at node (after opening events).plans)

-- a plan stays the one that was begun; what it decided once, it has decided for good
abbrev pub PlansStay : Type 0
PlansStay = (opening : ClusterOpening) (later earlier : List Event) (node block stamp : ℕ) (plan : Plan) → plan_in (after opening earlier) node block stamp ≡ Some plan
    → (now : Plan) × (plan_in (after opening (later ++ earlier)) node block stamp ≡ Some now) × Extends plan now

-- it has the answers of nodes that were asked, and decided by them
abbrev pub PlansAreRight : Type 0
PlansAreRight = (opening : ClusterOpening) (events : List Event) (node block stamp : ℕ) (plan : Plan) → plan_in (after opening events) node block stamp ≡ Some plan → IsRight plan

-- ---- what was decided

-- the plan of this DataNode decided so
abbrev pub HasDecided : Cluster → ℕ → ℕ → ℕ → Decision → Type 0
HasDecided state leader block stamp decision = (plan : Plan) × (plan_in state leader block stamp ≡ Some plan) × (plan.decision ≡ Some decision)

-- who asks this DataNode to recover its replica to a length leads a plan of the block at that stamp, which decided so, and in which the node
-- takes part
abbrev pub IsDecided : Cluster → ℕ → Presented → ℕ → Type 0
IsDecided state node presented count =
    (leader : ℕ) × (decision : Decision) × HasDecided state leader presented.block presented.stamp decision × (decision.length ≡ count) × (has_number node decision.nodes ≡ true)
    × (presented.caller ≡ node_principal leader)

-- so it is in each message that has a replica recovered
abbrev pub UpdatesCarryDecisions : Type 0
UpdatesCarryDecisions = (opening : ClusterOpening) (events : List Event) (number node count : ℕ) (presented : Presented)
    → message_at number (after opening events).messages ≡ Some (message.Node node (Presenting presented (call.UpdateReplica count))) → IsDecided (after opening events) node presented count

-- and wherever one is recovered
abbrev pub UpdatesAreDecided : Type 0
UpdatesAreDecided = (opening : ClusterOpening) (earlier : List Event) (event : Event) (node count : ℕ) (presented : Presented) → Serves opening earlier event node presented (call.UpdateReplica count)
    → IsDecided (after opening earlier) node presented count

-- and the NameNode is told the length that the sender's plan decided
abbrev pub CommitsAreDecided : Type 0
CommitsAreDecided = (opening : ClusterOpening) (events : List Event) (number leader block stamp count : ℕ) (nodes : List ℕ)
    → message_at number (after opening events).messages ≡ Some (message.CommitRecovery leader block stamp count nodes)
    → (decision : Decision) × HasDecided (after opening events) leader block stamp decision × (decision.length ≡ count)
