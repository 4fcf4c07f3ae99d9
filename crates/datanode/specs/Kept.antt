-- What each DataNode keeps, whatever it is asked: its records have tokens that cover them, and no replica stands above what was promised.
-- (HADOOP-4359 for tokens; HDFS-265 for generation stamps.)
use Rattle.std.specs.Prelude.{◌≡◌, ℕ, ◌≤◌, ◌<◌, true, List, Option, Some, None}
use Rattle.std.specs.Bool.{⊤}
use Rattle.std.specs.List.{AllByRecursion}
use Rattle.node_ids.specs.NodeId.{node_principal}
use Rattle.permission_bits.specs.Rights.{covers}
use Rattle.block_tokens.specs.TokenText.{Body, TokenText}
use Rattle.call_parts.specs.declared.access_log.AccessRecord.{AccessRecord}
use Rattle.replica_steps.specs.ReplicaStep.{Replicas, held_at}
use Rattle.replica_steps.specs.declared.replica.Replica.{Replica}
use Rattle.datanode.specs.declared.datanode.DataNode.TheInside.{Inside}

-- what is noted down presented a token of its caller, for its block and its access, before the token's expiry
pub record HasFittingToken (entry : AccessRecord) : Type 0 where
  pub parts : Body
  pub text : TokenText entry.token parts
  pub user : parts.user ≡ entry.caller
  pub block : parts.block ≡ entry.block
  pub allowed : covers parts.modes entry.mode.0 ≡ true
  pub in_time : entry.moment < parts.expiry

abbrev pub AreCovered : List AccessRecord → Type 0
AreCovered log = AllByRecursion HasFittingToken log

abbrev pub IsBelow : ℕ → Option Replica → Type 0
IsBelow promised None = ⊤
IsBelow promised (Some replica) = replica.stamp ≤ promised

abbrev pub AreBelow : Replicas → Type 0
AreBelow blocks = (block : ℕ) → IsBelow (held_at block blocks).promised (held_at block blocks).replica

-- a DataNode, as it is kept
pub record IsKept (node : Inside) : Type 0 where
  pub principal : node.principal ≡ node_principal node.id
  pub covered : AreCovered node.log
  pub below : AreBelow node.replicas
