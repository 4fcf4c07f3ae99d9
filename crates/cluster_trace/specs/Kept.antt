-- How a call from outside is seen as it is kept, and as it is asked of a DataNode.
use Rattle.std.specs.Prelude.{ℕ, Bool, true, false}
use Rattle.node_calls.specs.declared.call.NodeCall.{NodeCall}
use Rattle.node_calls.specs.declared.call.NodeCall.TheVariants.{Presenting, Invalidate, Keys}
use Rattle.node_calls.specs.declared.call.TokenCall.{TokenCall}
use Rattle.node_calls.specs.declared.call.TokenCall.TheVariants as call
use Rattle.node_calls.specs.declared.message.Message.{Message}
use Rattle.node_calls.specs.declared.message.Message.TheVariants as message
use Rattle.call_parts.specs.declared.presented.Presented.{Presented}
use Rattle.cluster_trace.specs.DataCall as outside
use Rattle.cluster_trace.specs.declared.data_call.Asked.{Asked}
use Rattle.cluster_trace.specs.declared.data_call.Asked.TheVariants.{Replica, Plan}
use Rattle.cluster_trace.specs.declared.data_call.Kept.{Kept}
use Rattle.cluster_trace.specs.declared.data_call.Kept.TheVariants as kept

-- a client asks this himself
abbrev pub is_client_call : TokenCall → Bool
is_client_call (call.Begin next) = true
is_client_call (call.Packet offset bytes next) = true
is_client_call (call.Finalize count next) = true
is_client_call (call.Read offset count) = true
is_client_call call.InitRecovery = false
is_client_call (call.UpdateReplica count) = false
is_client_call (call.SendCopy to) = false
is_client_call (call.TakeCopy bytes) = false

abbrev pub is_asked_of_replica : NodeCall → Bool
is_asked_of_replica (Presenting presented asked) = is_client_call asked
is_asked_of_replica (Invalidate block stamp) = false
is_asked_of_replica (Keys update) = false

abbrev pub is_asked : Kept → Bool
is_asked (kept.Replica own) = is_asked_of_replica own.value
is_asked (kept.Decide block stamp) = true
is_asked (kept.Commit block stamp) = true

-- never seen, since nothing else is kept
abbrev pub unseen_call : outside.DataCall
unseen_call = outside.Decide 0 0

abbrev pub presented_as : Presented → TokenCall → outside.DataCall
presented_as presented (call.Begin next) = outside.BeginWrite presented next
presented_as presented (call.Packet offset bytes next) = outside.Packet presented offset bytes next
presented_as presented (call.Finalize count next) = outside.Finalize presented count next
presented_as presented (call.Read offset count) = outside.Read presented offset count
presented_as presented call.InitRecovery = unseen_call
presented_as presented (call.UpdateReplica count) = unseen_call
presented_as presented (call.SendCopy to) = unseen_call
presented_as presented (call.TakeCopy bytes) = unseen_call

abbrev pub asked_of_replica : NodeCall → outside.DataCall
asked_of_replica (Presenting presented asked) = presented_as presented asked
asked_of_replica (Invalidate block stamp) = unseen_call
asked_of_replica (Keys update) = unseen_call

abbrev pub asked_in : Kept → outside.DataCall
asked_in (kept.Replica own) = asked_of_replica own.value
asked_in (kept.Decide block stamp) = outside.Decide block stamp
asked_in (kept.Commit block stamp) = outside.Commit block stamp

-- as if a message brought it
abbrev pub brought_as : ℕ → Asked → Message
brought_as node (Replica own) = message.Node node own.now
brought_as node (Plan own) = message.Plan node own
