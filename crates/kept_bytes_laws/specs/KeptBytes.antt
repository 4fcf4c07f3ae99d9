-- What was acknowledged to a writer stays. Where each target of a new block held so many of its bytes before it let a recovery of the block
-- begin, each length that is decided for the block is no less, no replica of it is recovered to a lesser one, and these bytes of each target
-- stay as they were. All this holds over every list of events, and whatever tokens are forged.
-- (HDFS-265, "Block recovery": bytes are acknowledged once each DataNode of the pipeline has them, and a recovery keeps them.)
use Rattle.std.specs.Prelude.{◌≡◌, ℕ, ◌≤◌, true, List, ◌∷◌, ◌++◌, take, length, Option, Some, Ok}
use Rattle.std.specs.Option.{option_and_then}
use Rattle.block_records.specs.Numbers.{has_number}
use Rattle.block_laws.specs.Laws.{new_blocks}
use Rattle.block_recovery.specs.declared.decision.Decision.{Decision}
use Rattle.block_answers.specs.LocatedBlocks.{AddedBlock}
use Rattle.node_calls.specs.declared.call.NodeCall.TheVariants.{Invalidate}
use Rattle.node_calls.specs.declared.call.TokenCall.TheVariants as call
use Rattle.call_parts.specs.declared.presented.Presented.{Presented}
use Rattle.node_calls.specs.declared.reply.NodeReply.{NodeReply}
use Rattle.replica_steps.specs.declared.held.Held.{Held}
use Rattle.replica_steps.specs.declared.replica.Replica.{Replica}
use Rattle.cluster_trace.specs.Provenance.{IsIn, call_of}
use Rattle.cluster_trace.specs.Trace.{Cluster, ClusterOpening, event_happened, after}
use Rattle.cluster_trace.specs.declared.event.Event.{Event}
use Rattle.cluster_trace.specs.declared.outcome.EventAnswer.TheVariants.{Called}
use Rattle.fencing_laws.specs.Fencing.{held_in, Serves, HasDecided}

-- the replica that a DataNode has of a block, if it has one
abbrev pub replica_in : Cluster → ℕ → ℕ → Option Replica
replica_in state node block = option_and_then (λ (held : Held). held.replica) (held_in state node block)

-- at this event a DataNode removes its replica of a block
pub record Removes (opening : ClusterOpening) (earlier : List Event) (event : Event) (node block : ℕ) : Type 0 where
  pub now : ℕ
  pub stamp : ℕ
  pub told : NodeReply
  pub asks : call_of (after opening earlier) event ≡ Some (record { node = node; now = now; call = Invalidate block stamp })
  pub done : (event_happened (after opening earlier) event).answer ≡ Called (Ok told)

-- ---- what is acknowledged

-- a writer was told of this new block
abbrev pub IsAdded : Cluster → AddedBlock → Type 0
IsAdded state new = IsIn new (new_blocks state.entries)

-- Behind the earlier events a DataNode holds so many bytes of the block at its first stamp, which begin with these. It has let no recovery
-- of the block begin, and at no later event it removes its replica.
pub record HoldsFrom (opening : ClusterOpening) (later earlier : List Event) (new : AddedBlock) (node bytes : ℕ) (front : List ℕ) : Type 0 where
  pub replica : Replica
  pub there : replica_in (after opening earlier) node new.block ≡ Some replica
  pub stamp : replica.stamp ≡ new.stamp
  pub enough : bytes ≤ length replica.bytes
  pub begins : take bytes replica.bytes ≡ front
  pub not_recovered : (last past : List Event) (event : Event) (presented : Presented) → earlier ≡ last ++ event ∷ past → presented.block ≡ new.block
      → Serves opening past event node presented call.InitRecovery → ⊥
  pub not_removed : (last past : List Event) (event : Event) → later ≡ last ++ event ∷ past → Removes opening (past ++ earlier) event node new.block → ⊥

-- each target of the block has held so many bytes since some event
abbrev pub IsAcknowledged : ClusterOpening → List Event → AddedBlock → ℕ → Type 0
IsAcknowledged opening events new bytes = (node : ℕ) → has_number node new.targets ≡ true
    → (later : List Event) × (earlier : List Event) × (front : List ℕ) × (events ≡ later ++ earlier) × HoldsFrom opening later earlier new node bytes front

-- ---- it stays

abbrev pub DecisionsKeepBytes : Type 0
DecisionsKeepBytes = (opening : ClusterOpening) (events : List Event) (new : AddedBlock) (bytes leader stamp : ℕ) (decision : Decision) → IsAdded (after opening events) new
    → IsAcknowledged opening events new bytes → HasDecided (after opening events) leader new.block stamp decision → bytes ≤ decision.length

abbrev pub UpdatesKeepBytes : Type 0
UpdatesKeepBytes = (opening : ClusterOpening) (later earlier : List Event) (event : Event) (new : AddedBlock) (bytes node count : ℕ) (presented : Presented)
    → IsAdded (after opening (later ++ event ∷ earlier)) new → IsAcknowledged opening (later ++ event ∷ earlier) new bytes → presented.block ≡ new.block
    → Serves opening earlier event node presented (call.UpdateReplica count) → bytes ≤ count

-- at each event since a target held the bytes, it has a replica that begins with them
abbrev pub ReplicasKeepBytes : Type 0
ReplicasKeepBytes = (opening : ClusterOpening) (last later earlier : List Event) (new : AddedBlock) (node bytes : ℕ) (front : List ℕ)
    → IsAdded (after opening (last ++ (later ++ earlier))) new → IsAcknowledged opening (last ++ (later ++ earlier)) new bytes → has_number node new.targets ≡ true
    → HoldsFrom opening (last ++ later) earlier new node bytes front
    → (replica : Replica) × (replica_in (after opening (later ++ earlier)) node new.block ≡ Some replica) × (take bytes replica.bytes ≡ front)
