-- Laws of what a DataNode does for a caller, by the mode of access that it notes down: who is noted as no writer changes nothing, and who is
-- noted as no reader is told no bytes. That each served call is noted is `ServedCallsAreNoted` in `cluster_laws`, and that its token covers the
-- noted mode `RecordsAreCovered` in `datanode`. And of the bytes that a reader is told.
-- (HADOOP-4359: a token allows its user to read or to write a block. HDFS Architecture, "Data Replication".)
use Rattle.std.specs.Prelude.{◌≡◌, ℕ, Bool, true, false, List, [], ◌∷◌, ◌++◌, length, Option, Some, Result, Ok}
use Rattle.std.specs.List.{list_any}
use Rattle.permission_bits.specs.Rights.{covers}
use Rattle.call_parts.specs.declared.access_log.AccessRecord.{AccessRecord}
use Rattle.call_parts.specs.declared.presented.Presented.{Presented}
use Rattle.node_calls.specs.declared.call.NodeCall.{NodeCall}
use Rattle.node_calls.specs.declared.call.NodeCall.TheVariants.{Presenting}
use Rattle.node_calls.specs.declared.call.ReplicaState.TheVariants.{Finalized}
use Rattle.node_calls.specs.declared.call.TokenCall.TheVariants as call
use Rattle.node_calls.specs.declared.message.Message.{Message}
use Rattle.node_calls.specs.declared.message.Message.TheVariants as message
use Rattle.node_calls.specs.declared.refusal.NodeRefusal.{NodeRefusal}
use Rattle.node_calls.specs.declared.reply.NodeReply.{NodeReply}
use Rattle.node_calls.specs.declared.reply.NodeReply.TheVariants as reply
use Rattle.replica_steps.specs.ReplicaStep.{held_at}
use Rattle.replica_steps.specs.declared.replica.Replica.{Replica}
use Rattle.datanode.specs.NodeStep.{DataNode, node_after, node_answer}

-- ---- what is done for a caller

-- the DataNode notes down the call as this access
abbrev pub IsNoted : DataNode → ℕ → NodeCall → AccessRecord → Type 0
IsNoted node now asked entry = (node_after node now asked).log ≡ node.log ++ entry ∷ []

-- it is one to read
abbrev pub reads : AccessRecord → Bool
reads entry = covers entry.mode.0 1

-- it is one to write
abbrev pub writes : AccessRecord → Bool
writes entry = covers entry.mode.0 2

-- who doesn't write changes nothing that is held
abbrev pub ReadersChangeNothing : Type 0
ReadersChangeNothing = (node : DataNode) (now : ℕ) (asked : NodeCall) (entry : AccessRecord) → IsNoted node now asked entry → writes entry ≡ false → (node_after node now asked).blocks ≡ node.blocks

-- bytes of a replica are told
abbrev pub tells_bytes : Result NodeReply NodeRefusal → Bool
tells_bytes (Ok (reply.Read bytes)) = true
tells_bytes _ = false

-- or sent to another DataNode
abbrev pub sends_bytes : Message → Bool
sends_bytes (message.Node to (Presenting presented (call.TakeCopy bytes))) = true
sends_bytes _ = false

-- who doesn't read is told no bytes, and no copy is sent
abbrev pub WritersAreToldNoBytes : Type 0
WritersAreToldNoBytes = (node : DataNode) (now : ℕ) (asked : NodeCall) (entry : AccessRecord) → IsNoted node now asked entry → reads entry ≡ false
    → (tells_bytes (node_answer node now asked).result ≡ false) × (list_any sends_bytes (node_answer node now asked).messages ≡ false)

-- ---- what is told

-- what is told is so many of these bytes, from the offset on
pub record IsPart (bytes told : List ℕ) (offset count : ℕ) : Type 0 where
  pub before : List ℕ
  pub behind : List ℕ
  pub parted : bytes ≡ before ++ (told ++ behind)
  pub begins : length before ≡ offset
  pub long : length told ≡ count

-- a finalized replica of this stamp is held, and what is told is a part of it
pub record IsOfReplica (held : Option Replica) (stamp offset count : ℕ) (told : List ℕ) : Type 0 where
  pub replica : Replica
  pub stands : held ≡ Some replica
  pub finalized : replica.state ≡ Finalized
  pub stamp_is : replica.stamp ≡ stamp
  pub part : IsPart replica.bytes told offset count

abbrev pub ReadsTellWhatIsHeld : Type 0
ReadsTellWhatIsHeld = (node : DataNode) (now : ℕ) (presented : Presented) (offset count : ℕ) (told : List ℕ)
    → (node_answer node now (Presenting presented (call.Read offset count))).result ≡ Ok (reply.Read told)
    → IsOfReplica (held_at presented.block node.blocks).replica presented.stamp offset count told
