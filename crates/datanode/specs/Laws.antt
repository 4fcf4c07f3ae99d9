-- What stays at a DataNode whatever it is asked: promised stamps, and the bytes of replicas; and what its log tells.
-- (HDFS-265: generation stamps fence old writers, and a recovery cuts replicas to one length. HADOOP-4359: tokens.)
use Rattle.std.specs.Prelude.{◌≡◌, ℕ, ◌≤◌, ◌<◌, ◌⊎◌, List, [], ◌++◌, take, Option, Some, None, Ok, Err, slice_index}
use Rattle.std.specs.Bool.{⊤}
use Rattle.node_calls.specs.declared.call.NodeCall.{NodeCall}
use Rattle.node_calls.specs.declared.call.NodeCall.TheVariants.{Presenting, Invalidate, Keys}
use Rattle.node_calls.specs.declared.call.TokenCall.{TokenCall}
use Rattle.node_calls.specs.declared.call.TokenCall.TheVariants as call
use Rattle.call_parts.specs.declared.presented.Presented.{Presented}
use Rattle.node_calls.specs.declared.refusal.NodeRefusal.{NodeRefusal}
use Rattle.node_calls.specs.declared.reply.NodeReply.{NodeReply}
use Rattle.replica_steps.specs.ReplicaStep.{held_at}
use Rattle.replica_steps.specs.declared.replica.Replica.{Replica}
use Rattle.datanode.specs.Kept.{AreBelow, AreCovered}
use Rattle.datanode.specs.NodeStep.{DataNode, node_after, node_answer}

-- a promised stamp never falls, also where the replica is removed
abbrev pub NodeKeepsPromises : Type 0
NodeKeepsPromises = (node : DataNode) (now : ℕ) (asked : NodeCall) (block : ℕ) → (held_at block node.blocks).promised ≤ (held_at block (node_after node now asked).blocks).promised

-- no replica stands above the stamp that is promised
abbrev pub StandBelow : DataNode → Type 0
StandBelow node = AreBelow node.blocks

abbrev pub ReplicasStandBelow : Type 0
ReplicasStandBelow = (node : DataNode) (now : ℕ) (asked : NodeCall) → StandBelow node → StandBelow (node_after node now asked)

-- the length that a recovery gives
abbrev pub given_length : TokenCall → Option ℕ
given_length (call.Begin next) = None
given_length (call.Packet offset bytes next) = None
given_length (call.Finalize count next) = None
given_length (call.Read offset count) = None
given_length call.InitRecovery = None
given_length (call.UpdateReplica count) = Some count
given_length (call.SendCopy to) = None
given_length (call.TakeCopy bytes) = None

abbrev pub recovered_length : NodeCall → Option ℕ
recovered_length (Presenting presented asked) = given_length asked
recovered_length (Invalidate block stamp) = None
recovered_length (Keys update) = None

-- bytes are appended to; by a recovery they are left as they are, or cut to its length
abbrev pub KeepsBytes : Option ℕ → List ℕ → List ℕ → Type 0
KeepsBytes None old new = (more : List ℕ) × (new ≡ old ++ more)
KeepsBytes (Some count) old new = (new ≡ old) ⊎ (new ≡ take count old)

-- of a replica that stays the stamp doesn't fall, and the bytes stay
abbrev pub AreKept : Option ℕ → Option Replica → Option Replica → Type 0
AreKept recovered None new = ⊤
AreKept recovered (Some old) None = ⊤
AreKept recovered (Some old) (Some new) = (old.stamp ≤ new.stamp) × KeepsBytes recovered old.bytes new.bytes

abbrev pub NodeKeepsBytes : Type 0
NodeKeepsBytes = (node : DataNode) (now : ℕ) (asked : NodeCall) (block : ℕ) → StandBelow node
    → AreKept (recovered_length asked) (held_at block node.blocks).replica (held_at block (node_after node now asked).blocks).replica

-- a packet is taken at the promised stamp alone: so once a recovery has promised a newer one, none of an older stamp is
abbrev pub NodeFencesOldWriters : Type 0
NodeFencesOldWriters = (node : DataNode) (now offset : ℕ) (presented : Presented) (bytes next : List ℕ) (told : NodeReply)
    → (node_answer node now (Presenting presented (call.Packet offset bytes next))).result ≡ Ok told → presented.stamp ≡ (held_at presented.block node.blocks).promised

-- a refusal changes no replica, no promised stamp and no record, and sends nothing
abbrev pub RefusalsChangeNothing : Type 0
RefusalsChangeNothing = (node : DataNode) (now : ℕ) (asked : NodeCall) (refusal : NodeRefusal) → (node_answer node now asked).result ≡ Err refusal
    → ((node_after node now asked).blocks ≡ node.blocks) × ((node_after node now asked).log ≡ node.log) × ((node_answer node now asked).messages ≡ [])

-- ---- the log

abbrev pub IsPresented : NodeCall → Type 0
IsPresented (Presenting presented asked) = (i : ℕ) → slice_index presented.token i < 256
IsPresented (Invalidate block stamp) = ⊤
IsPresented (Keys update) = ⊤

abbrev pub RecordsAreCovered : Type 0
RecordsAreCovered = (node : DataNode) (now : ℕ) (asked : NodeCall) → IsPresented asked → AreCovered node.log → AreCovered (node_after node now asked).log
