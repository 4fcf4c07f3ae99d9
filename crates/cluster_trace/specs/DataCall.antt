-- What is asked of a DataNode from outside: by a client, who presents a token, or of a node that leads the recovery of a block, to go on with
-- it. Every other call of a DataNode comes with a message.
-- (HDFS Architecture, "Replication Pipelining": a client writes to the first DataNode of a pipeline, and reads from any. HDFS-265, "Block
-- recovery": the leading node goes on once enough of the others have answered, or it has waited long enough.)
use Rattle.std.specs.Prelude.{ℕ, List}
use Rattle.node_calls.specs.declared.call.NodeCall.TheVariants.{Presenting}
use Rattle.node_calls.specs.declared.call.PlanCall.TheVariants as plan
use Rattle.node_calls.specs.declared.call.TokenCall.TheVariants as call
use Rattle.node_calls.specs.declared.message.Message.{Message}
use Rattle.node_calls.specs.declared.message.Message.TheVariants as message
use Rattle.call_parts.specs.declared.presented.Presented.{Presented}

pub data DataCall : Type 0 where
  BeginWrite : (presented : Presented) (next : List ℕ) → DataCall
  Packet : (presented : Presented) (offset : ℕ) (bytes next : List ℕ) → DataCall
  Finalize : (presented : Presented) (count : ℕ) (next : List ℕ) → DataCall
  Read : (presented : Presented) (offset count : ℕ) → DataCall
  -- of the leading node
  Decide : (block stamp : ℕ) → DataCall
  Commit : (block stamp : ℕ) → DataCall

-- it is asked as if a message brought it
abbrev pub as_message : ℕ → DataCall → Message
as_message node (BeginWrite presented next) = message.Node node (Presenting presented (call.Begin next))
as_message node (Packet presented offset bytes next) = message.Node node (Presenting presented (call.Packet offset bytes next))
as_message node (Finalize presented count next) = message.Node node (Presenting presented (call.Finalize count next))
as_message node (Read presented offset count) = message.Node node (Presenting presented (call.Read offset count))
as_message node (Decide block stamp) = message.Plan node (plan.Decide block stamp)
as_message node (Commit block stamp) = message.Plan node (plan.Commit block stamp)
