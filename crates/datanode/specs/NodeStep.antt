-- A DataNode, and what a call leaves of it: the token is judged first, and then what is asked of the replica.
-- (HADOOP-4359: a DataNode takes a token by the keys that the NameNode sends it, and asks nobody. HDFS Architecture, "Replication
-- Pipelining".)
use Rattle.std.specs.Prelude.{◌≡◌, ℕ, max, List, [], ◌∷◌, ◌++◌, length, Option, Some, None, Result, Ok, Err}
use Rattle.std.specs.Option.{option_map}
use Rattle.node_ids.specs.NodeId.{node_principal}
use Rattle.block_tokens.specs.KeyList.{KeyList, usable_keys, merged_keys}
use Rattle.block_tokens.specs.TokenTest.{Access, token_test}
use Rattle.block_tokens.specs.declared.refusal.TokenRefusal.{TokenRefusal}
use Rattle.call_parts.specs.declared.access_log.AccessRecord.{AccessRecord}
use Rattle.node_calls.specs.declared.call.NodeCall.{NodeCall}
use Rattle.node_calls.specs.declared.call.NodeCall.TheVariants.{Presenting, Invalidate, Keys}
use Rattle.node_calls.specs.declared.call.TokenCall.{TokenCall}
use Rattle.node_calls.specs.declared.call.TokenCall.TheVariants as call
use Rattle.call_parts.specs.declared.presented.Presented.{Presented}
use Rattle.node_calls.specs.declared.refusal.NodeRefusal.{NodeRefusal}
use Rattle.node_calls.specs.declared.refusal.NodeRefusal.TheVariants.{Token, Replica}
use Rattle.node_calls.specs.declared.refusal.ReplicaRefusal.{ReplicaRefusal}
use Rattle.node_calls.specs.declared.reply.NodeReply.TheVariants as reply
use Rattle.replica_steps.specs.ReplicaStep.{Replicas, held_at, replica_refusal, removal_refusal, replicas_after, without_replica_of}
use Rattle.replicas.specs.Asking.{asked_by, modes_of_call, record_of}
use Rattle.replicas.specs.Sending.{call_reply, call_sends}
use Rattle.datanode.specs.declared.answered.Answered.{Answered}

pub record DataNode : Type 0 where
  pub id : ℕ
  -- the most bytes of a replica
  pub limit : ℕ
  -- the greatest moment of its calls
  pub clock : ℕ
  pub keys : KeyList
  pub blocks : Replicas
  pub log : List AccessRecord

-- the clock that a call is judged by
abbrev pub clock_with : DataNode → ℕ → ℕ
clock_with node now = max node.clock now

-- the clock was moved on, and the keys are dropped that have expired by then
abbrev pub moved_on : ℕ → DataNode → DataNode
moved_on clock node = record node { clock = clock; keys = usable_keys clock node.keys }

-- ---- calls that present a token

-- what a function answered is what is refused, or nothing is
abbrev pub TellsNodeRefusal : {X : Type 0} → Result X NodeRefusal → Option NodeRefusal → Type 0
TellsNodeRefusal (Ok x) refused = refused ≡ None
TellsNodeRefusal (Err refusal) refused = refused ≡ Some refusal

abbrev pub access_of : ℕ → Presented → TokenCall → Access
access_of clock presented asked = record { now = clock; caller = presented.caller; block = presented.block; mode = (modes_of_call asked).0 }

-- the token first
abbrev pub token_or_replica : Option TokenRefusal → Option ReplicaRefusal → Option NodeRefusal
token_or_replica (Some refusal) later = Some (Token refusal)
token_or_replica None later = option_map Replica later

abbrev pub call_refusal : DataNode → ℕ → Presented → TokenCall → Option NodeRefusal
call_refusal node clock presented asked =
    token_or_replica (token_test node.keys (access_of clock presented asked) presented.token)
    (replica_refusal node.limit asked presented.stamp (held_at presented.block node.blocks))

-- what a call does that isn't refused: it changes replicas, and is noted down
abbrev pub call_served : DataNode → ℕ → Presented → TokenCall → DataNode
call_served node clock presented asked = record node {
  blocks = replicas_after asked presented.stamp presented.block node.blocks;
  log = node.log ++ record_of node.id clock presented asked (held_at presented.block node.blocks) ∷ [];
}

abbrev pub call_told : DataNode → Presented → TokenCall → Answered
call_told node presented asked = record {
  result = Ok (call_reply asked (held_at presented.block node.blocks));
  messages = call_sends node.id presented asked (held_at presented.block node.blocks);
}

-- a refusal changes no replica, isn't noted down, and sends nothing
abbrev pub call_refused : NodeRefusal → Answered
call_refused refusal = record { result = Err refusal; messages = [] }

abbrev pub presented_by : DataNode → ℕ → Presented → TokenCall → Option NodeRefusal → DataNode
presented_by node clock presented asked (Some refusal) = node
presented_by node clock presented asked None = call_served node clock presented asked

abbrev pub told_by : DataNode → Presented → TokenCall → Option NodeRefusal → Answered
told_by node presented asked (Some refusal) = call_refused refusal
told_by node presented asked None = call_told node presented asked

unfoldable pub presented_after : DataNode → ℕ → Presented → TokenCall → DataNode
presented_after node clock presented asked = moved_on clock (presented_by node clock presented asked (call_refusal node clock presented asked))

unfoldable pub presented_answer : DataNode → ℕ → Presented → TokenCall → Answered
presented_answer node clock presented asked = told_by node presented asked (call_refusal node clock presented asked)

-- ---- removals

abbrev pub removed_by : DataNode → ℕ → Option ReplicaRefusal → DataNode
removed_by node block (Some refusal) = node
removed_by node block None = record node { blocks = without_replica_of block node.blocks }

abbrev pub removal_told : Option ReplicaRefusal → Answered
removal_told (Some refusal) = call_refused (Replica refusal)
removal_told None = record { result = Ok reply.Removed; messages = [] }

-- ---- all calls

-- a copy is to be sent
abbrev pub copy_call : ℕ → ℕ → ℕ → List ℕ → ℕ → NodeCall
copy_call node block stamp token to = Presenting (record { caller = node_principal node; block = block; stamp = stamp; token = token }) (call.SendCopy to)

-- what is left of a node
unfoldable pub node_after : DataNode → ℕ → NodeCall → DataNode
node_after node now (Presenting presented asked) = presented_after node (clock_with node now) (asked_by node.id presented asked) asked
node_after node now (Invalidate block stamp) = moved_on (clock_with node now) (removed_by node block (removal_refusal stamp (held_at block node.blocks).replica))
node_after node now (Keys update) = moved_on (clock_with node now) (record node { keys = merged_keys node.keys update })

-- what it answers and sends
unfoldable pub node_answer : DataNode → ℕ → NodeCall → Answered
node_answer node now (Presenting presented asked) = presented_answer node (clock_with node now) (asked_by node.id presented asked) asked
node_answer node now (Invalidate block stamp) = removal_told (removal_refusal stamp (held_at block node.blocks).replica)
node_answer node now (Keys update) = record { result = Ok (reply.Keys (length (usable_keys (clock_with node now) (merged_keys node.keys update)))); messages = [] }
