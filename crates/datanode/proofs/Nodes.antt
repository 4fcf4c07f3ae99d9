-- What any call leaves of any block at a node.
use Rattle.std.proofs.Common.{◌≡◌, ℕ, Option, Some, None, refl}
use Rattle.block_tokens.specs.TokenTest.{token_test}
use Rattle.block_tokens.specs.declared.refusal.TokenRefusal.{TokenRefusal}
use Rattle.node_calls.specs.declared.call.NodeCall.{NodeCall}
use Rattle.node_calls.specs.declared.call.NodeCall.TheVariants.{Presenting, Invalidate, Keys}
use Rattle.node_calls.specs.declared.call.TokenCall.{TokenCall}
use Rattle.call_parts.specs.declared.presented.Presented.{Presented}
use Rattle.node_calls.specs.declared.refusal.NodeRefusal.{NodeRefusal}
use Rattle.node_calls.specs.declared.refusal.ReplicaRefusal.{ReplicaRefusal}
use Rattle.replicas.specs.Asking.{asked_by}
use Rattle.replica_steps.specs.ReplicaStep.{held_at, replica_refusal, removal_refusal, with_no_replica}
use Rattle.datanode.specs.NodeStep.{DataNode, node_after, presented_after, presented_by, removed_by, clock_with, call_refusal, token_or_replica, access_of}
use Rattle.datanode.specs.Laws.{given_length, recovered_length}
use Rattle.datanode.proofs.Steps.{Follows, same, removes, change, called}

-- a token that is taken leaves the judgement to the replica
pub replica_passes : (token : Option TokenRefusal) (replica : Option ReplicaRefusal) → token_or_replica token replica ≡ None → replica ≡ None
replica_passes (Some refusal) replica e = cc
replica_passes None None e = refl
replica_passes None (Some refusal) e = cc

presented : (node : DataNode) (clock : ℕ) (own : Presented) (asked : TokenCall) (q : ℕ) → Follows (given_length asked) (held_at q node.blocks) (held_at q (presented_after node clock own asked).blocks)
unfolding presented_after
presented node clock own asked q = by (call_refusal node clock own asked) refl
  where
    by : (refused : Option NodeRefusal) → call_refusal node clock own asked ≡ refused → Follows (given_length asked) (held_at q node.blocks) (held_at q (presented_by node clock own asked refused).blocks)
    by (Some refusal) e = same (given_length asked) (held_at q node.blocks)
    by None e = called node.limit own.stamp own.block q asked node.blocks (replica_passes (token_test node.keys (access_of clock own asked) own.token) (replica_refusal node.limit asked own.stamp (held_at own.block node.blocks)) e)

pub after : (node : DataNode) (now : ℕ) (asked : NodeCall) (q : ℕ) → Follows (recovered_length asked) (held_at q node.blocks) (held_at q (node_after node now asked).blocks)
unfolding node_after
after node now (Presenting own asked) q = presented node (clock_with node now) (asked_by node.id own asked) asked q
after node now (Keys update) q = same None (held_at q node.blocks)
after node now (Invalidate block stamp) q = by (removal_refusal stamp (held_at block node.blocks).replica)
  where
    by : (refused : Option ReplicaRefusal) → Follows None (held_at q node.blocks) (held_at q (removed_by node block refused).blocks)
    by (Some refusal) = same None (held_at q node.blocks)
    by None = change None q block with_no_replica node.blocks (removes (held_at block node.blocks).promised (held_at block node.blocks).replica)
