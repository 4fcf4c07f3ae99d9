-- What a DataNode keeps is kept by what a call that isn't refused does.
use Rattle.std.proofs.Common.{◌≡◌, ℕ, ◌<◌, List, ◌++◌, [], ◌∷◌, Option, Some, None, refl, slice_index}
use Rattle.block_tokens.specs.TokenTest.{token_test}
use Rattle.block_tokens.specs.declared.refusal.TokenRefusal.{TokenRefusal}
use Rattle.block_tokens.proofs.Taking.{test_tells}
use Rattle.call_parts.specs.declared.access_log.AccessRecord.{AccessRecord}
use Rattle.node_calls.specs.declared.refusal.ReplicaRefusal.{ReplicaRefusal}
use Rattle.node_calls.specs.declared.call.TokenCall.{TokenCall}
use Rattle.call_parts.specs.declared.presented.Presented.{Presented}
use Rattle.replicas.specs.Asking.{record_of}
use Rattle.replica_steps.specs.ReplicaStep.{Replicas, held_at, replica_refusal, replicas_after, with_no_replica, without_replica_of}
use Rattle.datanode.specs.Kept.{HasFittingToken, AreCovered, AreBelow}
use Rattle.datanode.specs.NodeStep.{DataNode, call_refusal, token_or_replica, access_of}
use Rattle.datanode.proofs.Steps.{change, removes, called}
use Rattle.datanode.proofs.Nodes.{replica_passes}

token_passes : (token : Option TokenRefusal) (replica : Option ReplicaRefusal) → token_or_replica token replica ≡ None → token ≡ None
token_passes (Some refusal) replica e = cc
token_passes None replica e = refl

all_more : (log : List AccessRecord) (entry : AccessRecord) → AreCovered log → HasFittingToken entry → AreCovered (log ++ entry ∷ [])
all_more [] entry all one = (one, tt)
all_more (first ∷ log) entry all one = (all.0, all_more log entry all.1 one)

pub removed_below : (block : ℕ) (blocks : Replicas) → AreBelow blocks → AreBelow (without_replica_of block blocks)
removed_below block blocks below q = (change None q block with_no_replica blocks (removes (held_at block blocks).promised (held_at block blocks).replica)).below (below q)

module _ (node : DataNode) (clock : ℕ) (own : Presented) (asked : TokenCall) (allowed : call_refusal node clock own asked ≡ None) where
  pub applied_below : AreBelow node.blocks → AreBelow (replicas_after asked own.stamp own.block node.blocks)
  applied_below below q =
      (called node.limit own.stamp own.block q asked node.blocks
      (replica_passes (token_test node.keys (access_of clock own asked) own.token) (replica_refusal node.limit asked own.stamp (held_at own.block node.blocks)) allowed)).below (below q)

  pub noted_covered : ((i : ℕ) → slice_index own.token i < 256) → AreCovered node.log → AreCovered (node.log ++ record_of node.id clock own asked (held_at own.block node.blocks) ∷ [])
  noted_covered bytes all =
      let taken = test_tells node.keys (access_of clock own asked) own.token bytes
      (token_passes (token_test node.keys (access_of clock own asked) own.token) (replica_refusal node.limit asked own.stamp (held_at own.block node.blocks)) allowed) in
      all_more node.log (record_of node.id clock own asked (held_at own.block node.blocks)) all
      (record { parts = taken.0; text = taken.2.text; user = taken.2.user; block = taken.2.block; allowed = taken.2.allowed; in_time = taken.2.in_time })
