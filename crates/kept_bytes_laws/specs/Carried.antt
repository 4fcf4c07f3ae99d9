-- Messages carry what was held: what a leading node is told of a replica is what its DataNode had when it let the recovery begin, and the
-- NameNode is told of DataNodes that updated their replicas. All this holds over every list of events, and whatever tokens are forged.
-- (HDFS-265, "Block recovery": each DataNode tells the leading one of its replica, which has those that take part updated and tells the
-- NameNode.)
use Rattle.std.specs.Prelude.{◌≡◌, ℕ, true, List, ◌∷◌, ◌++◌, length, Some}
use Rattle.block_records.specs.Numbers.{has_number}
use Rattle.node_calls.specs.declared.call.PlanCall.TheVariants as plan_call
use Rattle.node_calls.specs.declared.call.ReplicaState.{ReplicaState}
use Rattle.node_calls.specs.declared.call.ReplicaState.TheVariants.{Finalized}
use Rattle.node_calls.specs.declared.call.TokenCall.TheVariants as call
use Rattle.node_calls.specs.declared.message.Message.TheVariants as message
use Rattle.call_parts.specs.declared.presented.Presented.{Presented}
use Rattle.replica_steps.specs.declared.replica.Replica.{Replica}
use Rattle.cluster_trace.specs.Trace.{Cluster, ClusterOpening, message_at, after}
use Rattle.cluster_trace.specs.declared.event.Event.{Event}
use Rattle.fencing_laws.specs.Fencing.{Serves}
use Rattle.kept_bytes_laws.specs.KeptBytes.{replica_in}

-- at one of these events the DataNode let a recovery of the block begin at this stamp, and before it the node had a replica in this state,
-- of so many bytes
pub record HasAnswered (opening : ClusterOpening) (events : List Event) (node block stamp : ℕ) (state : ReplicaState) (count : ℕ) : Type 0 where
  pub later : List Event
  pub earlier : List Event
  pub event : Event
  pub presented : Presented
  pub replica : Replica
  pub all : events ≡ later ++ event ∷ earlier
  pub serves : Serves opening earlier event node presented call.InitRecovery
  pub of_block : presented.block ≡ block
  pub at_stamp : presented.stamp ≡ stamp
  pub there : replica_in (after opening earlier) node block ≡ Some replica
  pub in_state : replica.state ≡ state
  pub long : length replica.bytes ≡ count

-- what a leading node is told of a replica was held
abbrev pub AnswersAreHeld : Type 0
AnswersAreHeld = (opening : ClusterOpening) (events : List Event) (number primary node block stamp count : ℕ) (state : ReplicaState)
    → message_at number (after opening events).messages ≡ Some (message.Plan primary (plan_call.Reply node block stamp state count))
    → HasAnswered opening events node block stamp state count

-- at one of these events the DataNode updated its replica of the block to so many bytes at this stamp, and behind it the node had such a
-- replica, finalized
pub record HasUpdated (opening : ClusterOpening) (events : List Event) (node block stamp count : ℕ) : Type 0 where
  pub later : List Event
  pub earlier : List Event
  pub event : Event
  pub presented : Presented
  pub replica : Replica
  pub all : events ≡ later ++ event ∷ earlier
  pub serves : Serves opening earlier event node presented (call.UpdateReplica count)
  pub of_block : presented.block ≡ block
  pub at_stamp : presented.stamp ≡ stamp
  pub there : replica_in (after opening (event ∷ earlier)) node block ≡ Some replica
  pub stamped : replica.stamp ≡ stamp
  pub finalized : replica.state ≡ Finalized
  pub long : length replica.bytes ≡ count

-- each DataNode that the end of a recovery names has updated its replica to the length that is told
abbrev pub CommitsNameTheUpdated : Type 0
CommitsNameTheUpdated = (opening : ClusterOpening) (events : List Event) (number leader block stamp count node : ℕ) (nodes : List ℕ)
    → message_at number (after opening events).messages ≡ Some (message.CommitRecovery leader block stamp count nodes) → has_number node nodes ≡ true
    → HasUpdated opening events node block stamp count

-- a DataNode has a finalized replica of a block, of this stamp and of so many bytes
abbrev pub HasFinalized : Cluster → ℕ → ℕ → ℕ → ℕ → Type 0
HasFinalized state node block stamp count =
    (replica : Replica) × (replica_in state node block ≡ Some replica) × (replica.stamp ≡ stamp) × (replica.state ≡ Finalized) × (length replica.bytes ≡ count)

-- and where one recovers its replica to a length, it has such a replica behind that
abbrev pub UpdatesSetTheLength : Type 0
UpdatesSetTheLength = (opening : ClusterOpening) (earlier : List Event) (event : Event) (node count : ℕ) (presented : Presented) → Serves opening earlier event node presented (call.UpdateReplica count)
    → HasFinalized (after opening (event ∷ earlier)) node presented.block presented.stamp count
