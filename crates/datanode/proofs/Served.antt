-- What is left of a node where a call is served by what is held of its block, and what is told.
use Rattle.std.proofs.Common.{◌≡◌, ℕ, ◌<◌, ◌++◌, [], ◌∷◌, Option, Some, None, refl, sym, ap, ◌∙◌, slice_index}
use Rattle.std.proofs.lemmas.Map.Steps.{set_value_same}
use Rattle.std.specs.List.Sorted.{IsStrictlySortedBy}
use Rattle.std.specs.Map.{keys_of, set_value}
use Rattle.std.specs.Option.{option_map, unwrap_or}
use Rattle.std.specs.Ordering.{nat_cmp}
use Rattle.block_records.specs.Numbers.{is_number, entry_at}
use Rattle.block_tokens.specs.TokenTest.{token_test}
use Rattle.node_calls.specs.declared.call.TokenCall.{TokenCall}
use Rattle.call_parts.specs.declared.presented.Presented.{Presented}
use Rattle.node_calls.specs.declared.refusal.NodeRefusal.{NodeRefusal}
use Rattle.node_calls.specs.declared.refusal.NodeRefusal.TheVariants.{Replica}
use Rattle.node_calls.specs.declared.refusal.ReplicaRefusal.{ReplicaRefusal}
use Rattle.replicas.specs.Asking.{record_of}
use Rattle.replica_steps.specs.ReplicaStep.{held_at, nothing, replica_refusal, replicas_after}
use Rattle.replica_steps.specs.declared.held.Held.{Held}
use Rattle.datanode.specs.Kept.{AreCovered, AreBelow}
use Rattle.datanode.specs.NodeStep.{DataNode, call_refusal, token_or_replica, access_of, presented_by, told_by}
use Rattle.datanode.specs.Served.{held_by, log_by, told_of, told_unless}
use Rattle.datanode.proofs.Found.{after_found}
use Rattle.datanode.proofs.Kept.{applied_below, noted_covered}

module _ (node : DataNode) (clock : ℕ) (own : Presented) (asked : TokenCall) where
  pub served_covered : ((i : ℕ) → slice_index own.token i < 256) → AreCovered node.log → AreCovered (presented_by node clock own asked (call_refusal node clock own asked)).log
  served_covered bytes all = by (call_refusal node clock own asked) refl
    where
      by : (refused : Option NodeRefusal) → call_refusal node clock own asked ≡ refused → AreCovered (presented_by node clock own asked refused).log
      by (Some refusal) e = all
      by None e = noted_covered node clock own asked e bytes all

  pub served_below : AreBelow node.blocks → AreBelow (presented_by node clock own asked (call_refusal node clock own asked)).blocks
  served_below below = by (call_refusal node clock own asked) refl
    where
      by : (refused : Option NodeRefusal) → call_refusal node clock own asked ≡ refused → AreBelow (presented_by node clock own asked refused).blocks
      by (Some refusal) e = below
      by None e = applied_below node clock own asked e below

module _ (node : DataNode) (clock : ℕ) (own : Presented) (asked : TokenCall) (token : token_test node.keys (access_of clock own asked) own.token ≡ None)
    (held : Held) (there : Some held ≡ entry_at own.block node.blocks) (up : IsStrictlySortedBy nat_cmp (keys_of node.blocks)) where
  found : held ≡ held_at own.block node.blocks
  found = ap (λ entry. unwrap_or entry nothing) there

  judged : option_map Replica (replica_refusal node.limit asked own.stamp held) ≡ call_refusal node clock own asked
  judged =
      ap (λ (own_held : Held). option_map Replica (replica_refusal node.limit asked own.stamp own_held)) found
      ∙ ap (λ test. token_or_replica test (replica_refusal node.limit asked own.stamp (held_at own.block node.blocks))) (sym token)

  pub left : record node { blocks = set_value (is_number own.block) node.blocks (held_by asked own.stamp held (replica_refusal node.limit asked own.stamp held)); log = log_by node.log (record_of node.id clock own asked held) (replica_refusal node.limit asked own.stamp held) } ≡ presented_by node clock own asked (call_refusal node clock own asked)
  left = by (replica_refusal node.limit asked own.stamp held) ∙ ap (presented_by node clock own asked) judged
    where
      by : (refused : Option ReplicaRefusal) → record node { blocks = set_value (is_number own.block) node.blocks (held_by asked own.stamp held refused); log = log_by node.log (record_of node.id clock own asked held) refused } ≡ presented_by node clock own asked (option_map Replica refused)
      by (Some refusal) = ap (λ blocks. record node { blocks = blocks }) (set_value_same (is_number own.block) node.blocks held (sym there))
      by None =
          ap (λ blocks. record node { blocks = blocks; log = node.log ++ record_of node.id clock own asked held ∷ [] }) (after_found own.stamp own.block node.blocks held (sym there) up asked)
          ∙ ap (λ (own_held : Held). record node { blocks = replicas_after asked own.stamp own.block node.blocks; log = node.log ++ record_of node.id clock own asked own_held ∷ [] }) found

  pub told : told_unless node.id own asked held (replica_refusal node.limit asked own.stamp held) ≡ told_by node own asked (call_refusal node clock own asked)
  told = by (replica_refusal node.limit asked own.stamp held) ∙ ap (told_by node own asked) judged
    where
      by : (refused : Option ReplicaRefusal) → told_unless node.id own asked held refused ≡ told_by node own asked (option_map Replica refused)
      by (Some refusal) = refl
      by None = ap (λ (own_held : Held). told_of node.id own asked own_held) found
