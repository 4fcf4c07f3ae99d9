-- Readers are told of replicas that were there: each DataNode that is listed with a block of a file that was opened has had a finalized
-- replica of the block, of the stamp and the length that are listed. All this holds over every list of events, and whatever tokens are forged.
-- (HDFS Architecture, "Data Replication": DataNodes report the replicas that they have, and readers are told of these.)
use Rattle.std.specs.Prelude.{◌≡◌, ℕ, true, List, ◌∷◌, ◌++◌, length, Some}
use Rattle.block_records.specs.Numbers.{has_number}
use Rattle.block_answers.specs.LocatedBlocks.{OpenedFile}
use Rattle.block_answers.specs.declared.located.LocatedBlock.{LocatedBlock}
use Rattle.hdfs_types.specs.declared.reply.Reply.TheVariants as reply
use Rattle.flat_rows.specs.declared.verdict.Verdict.TheVariants.{Done}
use Rattle.history.specs.declared.entry.HistoryEntry.{HistoryEntry}
use Rattle.node_calls.specs.declared.call.ReplicaState.TheVariants.{Finalized}
use Rattle.replica_steps.specs.declared.replica.Replica.{Replica}
use Rattle.cluster_trace.specs.Provenance.{IsIn}
use Rattle.cluster_trace.specs.Trace.{ClusterOpening, event_happened, after}
use Rattle.cluster_trace.specs.declared.event.Event.{Event}
use Rattle.kept_bytes_laws.specs.KeptBytes.{replica_in}

-- behind some of these events the DataNode had a finalized replica of the block, of this stamp and with so many bytes
pub record HasHeld (opening : ClusterOpening) (events : List Event) (node block stamp count : ℕ) : Type 0 where
  pub later : List Event
  pub earlier : List Event
  pub all : events ≡ later ++ earlier
  pub replica : Replica
  pub there : replica_in (after opening earlier) node block ≡ Some replica
  pub stamped : replica.stamp ≡ stamp
  pub finalized : replica.state ≡ Finalized
  pub long : length replica.bytes ≡ count

-- at this event a file is opened
abbrev pub ListedNodesHeld : Type 0
ListedNodesHeld = (opening : ClusterOpening) (earlier : List Event) (event : Event) (entry : HistoryEntry) (file : OpenedFile) (listed : LocatedBlock) (node : ℕ)
    → (event_happened (after opening earlier) event).entries ≡ entry ∷ (after opening earlier).entries → entry.verdict ≡ Done (reply.Opened file)
    → IsIn listed file.blocks → has_number node listed.nodes ≡ true → HasHeld opening earlier node listed.block listed.stamp listed.length
