-- What a DataNode answers to a call that it doesn't refuse, and which messages it sends.
-- (HDFS Architecture, "Replication Pipelining": a node passes on to the next of the pipeline what it is sent; a finalized replica is
-- reported to the NameNode. HDFS-265: a recovery is led by one of the nodes.)
use Rattle.std.specs.Prelude.{ℕ, ◌+◌, List, [], ◌∷◌, ◌++◌, length, take, drop, Option, Some, None}
use Rattle.node_ids.specs.NodeId.{node_of}
use Rattle.node_calls.specs.declared.call.NodeCall.TheVariants.{Presenting}
use Rattle.node_calls.specs.declared.call.PlanCall.TheVariants as plan
use Rattle.node_calls.specs.declared.call.TokenCall.{TokenCall}
use Rattle.node_calls.specs.declared.call.TokenCall.TheVariants as call
use Rattle.node_calls.specs.declared.message.Message.{Message}
use Rattle.node_calls.specs.declared.message.Message.TheVariants as message
use Rattle.call_parts.specs.declared.presented.Presented.{Presented}
use Rattle.node_calls.specs.declared.reply.NodeReply.{NodeReply}
use Rattle.node_calls.specs.declared.reply.NodeReply.TheVariants as reply
use Rattle.replica_steps.specs.ReplicaStep.{own}
use Rattle.replica_steps.specs.declared.held.Held.{Held}

abbrev pub call_reply : TokenCall → Held → NodeReply
call_reply (call.Begin next) held = reply.Begun
call_reply (call.Packet offset bytes next) held = reply.Taken (offset + length bytes)
call_reply (call.Finalize count next) held = reply.Finalized count
call_reply (call.Read offset count) held = reply.Read (take count (drop offset (own held).bytes))
call_reply call.InitRecovery held = reply.Replica (own held).stamp (length (own held).bytes) (own held).state
call_reply (call.UpdateReplica count) held = reply.Updated count
call_reply (call.SendCopy to) held = reply.Copied (length (own held).bytes)
call_reply (call.TakeCopy bytes) held = reply.Stored (length bytes)

-- ---- messages

-- to the first of these nodes, with the others behind it; the caller and his token stay
abbrev pub forward : Presented → (List ℕ → TokenCall) → List ℕ → List Message
forward presented asked [] = []
forward presented asked (first ∷ next) = message.Node first (Presenting presented (asked next)) ∷ []

-- to the NameNode
abbrev pub report : ℕ → Presented → ℕ → List Message
report node presented count = message.Reported node presented.block presented.stamp count ∷ []

-- to the node that leads the recovery: the one in whose name the call is made
abbrev pub to_primary : Option ℕ → (ℕ → Message) → List Message
to_primary None told = []
to_primary (Some primary) told = told primary ∷ []

-- the node's id, what was asked of it, and what it held
abbrev pub call_sends : ℕ → Presented → TokenCall → Held → List Message
call_sends node presented (call.Begin next) held = forward presented call.Begin next
call_sends node presented (call.Packet offset bytes next) held = forward presented (call.Packet offset bytes) next
call_sends node presented (call.Finalize count next) held = forward presented (call.Finalize count) next ++ report node presented count
call_sends node presented (call.Read offset count) held = []
call_sends node presented call.InitRecovery held = to_primary (node_of presented.caller) (λ primary.
    message.Plan primary (plan.Reply node presented.block presented.stamp (own held).state (length (own held).bytes)))
call_sends node presented (call.UpdateReplica count) held = to_primary (node_of presented.caller) (λ primary.
    message.Plan primary (plan.Updated node presented.block presented.stamp)) ++ report node presented count
call_sends node presented (call.SendCopy to) held = message.Node to (Presenting presented (call.TakeCopy (own held).bytes)) ∷ []
call_sends node presented (call.TakeCopy bytes) held = report node presented (length bytes)
