-- What is refused, and what is noted down.
use Rattle.std.proofs.Common.{◌≡◌, ℕ, ◌<◌, ◌==◌, Bool, true, false, ◌||◌, not, nat_lt, List, [], length, Option, Some, None, Ok, Err, refl, cond, slice_index, ◌+◌}
use Rattle.std.proofs.lemmas.Bool.{eqb-true}
use Rattle.block_tokens.specs.KeyList.{usable_keys, merged_keys}
use Rattle.block_tokens.specs.TokenTest.{token_test}
use Rattle.node_calls.specs.declared.call.NodeCall.{NodeCall}
use Rattle.node_calls.specs.declared.call.NodeCall.TheVariants.{Presenting, Invalidate, Keys}
use Rattle.node_calls.specs.declared.call.TokenCall.{TokenCall}
use Rattle.node_calls.specs.declared.call.TokenCall.TheVariants as call
use Rattle.call_parts.specs.declared.presented.Presented.{Presented}
use Rattle.node_calls.specs.declared.refusal.NodeRefusal.{NodeRefusal}
use Rattle.node_calls.specs.declared.refusal.ReplicaRefusal.{ReplicaRefusal}
use Rattle.node_calls.specs.declared.refusal.ReplicaRefusal.TheVariants.{NoReplica, StampDiffers, OutOfRange, NotWritable, OffsetGap}
use Rattle.node_calls.specs.declared.reply.NodeReply.{NodeReply}
use Rattle.node_calls.specs.declared.reply.NodeReply.TheVariants as reply
use Rattle.node_ids.specs.NodeId.{node_principal}
use Rattle.replicas.specs.Asking.{asked_by, sends_copy}
use Rattle.replicas.specs.Sending.{call_reply}
use Rattle.replica_steps.specs.ReplicaState.{is_writing}
use Rattle.replica_steps.specs.ReplicaStep.{held_at, refused_or_later, replica_refusal, removal_refusal, packet_limit}
use Rattle.replica_steps.specs.declared.replica.Replica.{Replica}
use Rattle.datanode.specs.NodeStep.{DataNode, node_after, node_answer, presented_after, presented_answer, presented_by, told_by, removed_by, removal_told, clock_with, call_refusal, access_of}
use Rattle.datanode.specs.Kept.{AreCovered}
use Rattle.datanode.specs.Laws.{IsPresented}
use Rattle.datanode.proofs.Steps.{passed, not_so, never}
use Rattle.datanode.proofs.Nodes.{replica_passes}
use Rattle.datanode.proofs.Kept.{noted_covered}

differ : (told : NodeReply) (refusal : NodeRefusal) → Ok told ≡ Err refusal → ⊥
differ told refusal e = cc

differ_too : (told : NodeReply) (refusal : NodeRefusal) → Err refusal ≡ Ok told → ⊥
differ_too told refusal e = cc

-- ---- old writers

at_promise : (limit offset stamp promised : ℕ) (bytes next : List ℕ) (replica : Option Replica)
    → replica_refusal limit (call.Packet offset bytes next) stamp (record { replica = replica; promised = promised }) ≡ None → stamp ≡ promised
at_promise limit offset stamp promised bytes next None e = absurd (never NoReplica e)
at_promise limit offset stamp promised bytes next (Some replica) e =
    eqb-true stamp promised (not_so (stamp == promised) (passed (not (stamp == promised)) (StampDiffers promised)
    (refused_or_later (not (is_writing replica.state) || nat_lt replica.stamp promised) NotWritable
    (refused_or_later (not (offset == length replica.bytes)) (OffsetGap (length replica.bytes))
    (refused_or_later (nat_lt packet_limit (length bytes) || nat_lt limit (length replica.bytes + length bytes)) OutOfRange None))) e).0)

pub fenced : (node : DataNode) (now offset : ℕ) (own : Presented) (bytes next : List ℕ) (told : NodeReply)
    → (node_answer node now (Presenting own (call.Packet offset bytes next))).result ≡ Ok told → own.stamp ≡ (held_at own.block node.blocks).promised
unfolding node_answer presented_answer
fenced node now offset own bytes next told e = by (call_refusal node (clock_with node now) own (call.Packet offset bytes next)) refl e
  where
    by : (refused : Option NodeRefusal) → call_refusal node (clock_with node now) own (call.Packet offset bytes next) ≡ refused
        → (told_by node own (call.Packet offset bytes next) refused).result ≡ Ok told → own.stamp ≡ (held_at own.block node.blocks).promised
    by (Some refusal) is h = absurd (differ_too told refusal h)
    by None is h =
        at_promise node.limit offset own.stamp (held_at own.block node.blocks).promised bytes next (held_at own.block node.blocks).replica
        (replica_passes (token_test node.keys (access_of (clock_with node now) own (call.Packet offset bytes next)) own.token)
        (replica_refusal node.limit (call.Packet offset bytes next) own.stamp (held_at own.block node.blocks)) is)

-- ---- refusals

presented_unchanged : (node : DataNode) (clock : ℕ) (own : Presented) (asked : TokenCall) (refusal : NodeRefusal) → (presented_answer node clock own asked).result ≡ Err refusal
    → ((presented_after node clock own asked).blocks ≡ node.blocks) × ((presented_after node clock own asked).log ≡ node.log) × ((presented_answer node clock own asked).messages ≡ [])
unfolding presented_answer presented_after
presented_unchanged node clock own asked refusal e = by (call_refusal node clock own asked) e
  where
    by : (refused : Option NodeRefusal) → (told_by node own asked refused).result ≡ Err refusal
        → ((presented_by node clock own asked refused).blocks ≡ node.blocks) × ((presented_by node clock own asked refused).log ≡ node.log) × ((told_by node own asked refused).messages ≡ [])
    by (Some other) h = (refl, refl, refl)
    by None h = absurd (differ (call_reply asked (held_at own.block node.blocks)) refusal h)

pub unchanged : (node : DataNode) (now : ℕ) (asked : NodeCall) (refusal : NodeRefusal) → (node_answer node now asked).result ≡ Err refusal
    → ((node_after node now asked).blocks ≡ node.blocks) × ((node_after node now asked).log ≡ node.log) × ((node_answer node now asked).messages ≡ [])
unfolding node_answer node_after
unchanged node now (Presenting given asked) refusal e = presented_unchanged node (clock_with node now) (asked_by node.id given asked) asked refusal e
unchanged node now (Keys update) refusal e = absurd (differ (reply.Keys (length (usable_keys (clock_with node now) (merged_keys node.keys update)))) refusal e)
unchanged node now (Invalidate block stamp) refusal e = by (removal_refusal stamp (held_at block node.blocks).replica) e
  where
    by : (refused : Option ReplicaRefusal) → (removal_told refused).result ≡ Err refusal
        → ((removed_by node block refused).blocks ≡ node.blocks) × ((removed_by node block refused).log ≡ node.log) × ((removal_told refused).messages ≡ [])
    by (Some other) h = (refl, refl, refl)
    by None h = absurd (differ reply.Removed refusal h)

-- ---- records

presented_covered : (node : DataNode) (clock : ℕ) (own : Presented) (asked : TokenCall) → ((i : ℕ) → slice_index own.token i < 256) → AreCovered node.log → AreCovered (presented_after node clock own asked).log
unfolding presented_after
presented_covered node clock own asked bytes all = by (call_refusal node clock own asked) refl
  where
    by : (refused : Option NodeRefusal) → call_refusal node clock own asked ≡ refused → AreCovered (presented_by node clock own asked refused).log
    by (Some refusal) e = all
    by None e = noted_covered node clock own asked e bytes all

own_bytes : (b : Bool) (given : Presented) (principal : List ℕ) → ((i : ℕ) → slice_index given.token i < 256) → (i : ℕ) → slice_index (cond b (record given { caller = principal }) given).token i < 256
own_bytes true given principal h = h
own_bytes false given principal h = h

pub covered : (node : DataNode) (now : ℕ) (asked : NodeCall) → IsPresented asked → AreCovered node.log → AreCovered (node_after node now asked).log
unfolding node_after
covered node now (Presenting given asked) bytes all = presented_covered node (clock_with node now) (asked_by node.id given asked) asked (own_bytes (sends_copy asked) given (node_principal node.id) bytes) all
covered node now (Keys update) bytes all = all
covered node now (Invalidate block stamp) bytes all = by (removal_refusal stamp (held_at block node.blocks).replica)
  where
    by : (refused : Option ReplicaRefusal) → AreCovered (removed_by node block refused).log
    by (Some refusal) = all
    by None = all
