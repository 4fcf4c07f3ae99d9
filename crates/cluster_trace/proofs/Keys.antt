-- A DataNode never holds a key that the NameNode didn't make, as long as no message brings one.
use Rattle.std.proofs.Common.{◌≡◌, ℕ, Bool, true, false, List, [], ◌∷◌, refl, sym, subst, cond, Option, Some, None}
use Rattle.std.specs.Bool.{⊤}
use Rattle.std.specs.List.{AllByRecursion}
use Rattle.std.specs.BTreeMap.{insert_entry, is_at}
use Rattle.std.specs.Ordering.{nat_cmp, match_ordering}
use Rattle.std.specs.declared.cmp.Ordering.{Ordering}
use Rattle.std.specs.declared.cmp.Ordering.TheVariants.{Less, Equal, Greater}
use Rattle.std.proofs.lemmas.Map.Lookups.{exact_unsigned}
use Rattle.block_records.proofs.Numbers.{number_is}
use Rattle.block_tokens.specs.KeyList.{KeyList, key_with, usable_keys, expires_after, learned_key, with_merged_key, merged_keys}
use Rattle.block_answers.specs.declared.key_list.HeldKey.{HeldKey}
use Rattle.node_calls.specs.declared.call.NodeCall.{NodeCall}
use Rattle.node_calls.specs.declared.call.NodeCall.TheVariants.{Presenting, Invalidate, Keys}
use Rattle.node_calls.specs.declared.call.TokenCall.{TokenCall}
use Rattle.node_calls.specs.declared.message.Message.{Message}
use Rattle.node_calls.specs.declared.message.Message.TheVariants as message
use Rattle.call_parts.specs.declared.presented.Presented.{Presented}
use Rattle.node_calls.specs.declared.refusal.NodeRefusal.{NodeRefusal}
use Rattle.node_calls.specs.declared.refusal.ReplicaRefusal.{ReplicaRefusal}
use Rattle.replicas.specs.Asking.{asked_by}
use Rattle.replica_steps.specs.ReplicaStep.{held_at, removal_refusal}
use Rattle.datanode.specs.NodeStep.{DataNode, node_after, presented_after, presented_by, removed_by, clock_with, call_refusal}

module _ (P : ℕ × List ℕ → Type 0) where
  -- of each key, with its serial
  abbrev pub Made : KeyList → Type 0
  Made keys = AllByRecursion (λ (entry : ℕ × HeldKey). P (entry.0, entry.1.key)) keys

  pub usable_made : (now : ℕ) (keys : KeyList) → Made keys → Made (usable_keys now keys)
  usable_made now [] each = each
  usable_made now (e ∷ keys) each = by (expires_after now e.1.expiry) (usable_made now keys each.1)
    where
      by : (b : Bool) → Made (usable_keys now keys) → Made (cond b (e ∷ usable_keys now keys) (usable_keys now keys))
      by true rest = (each.0, rest)
      by false rest = rest

  inserted_made : (keys : KeyList) (serial : ℕ) (held : HeldKey) → Made keys → P (serial, held.key) → Made (insert_entry nat_cmp keys serial held)
  inserted_made [] serial held each new = (new, tt)
  inserted_made (e ∷ keys) serial held each new = by (nat_cmp serial e.0) refl (inserted_made keys serial held each.1 new)
    where
      by : (o : Ordering) → nat_cmp serial e.0 ≡ o → Made (insert_entry nat_cmp keys serial held)
          → Made (match_ordering o ((serial, held) ∷ e ∷ keys) ((e.0, held) ∷ keys) (e ∷ insert_entry nat_cmp keys serial held))
      by Less same rest = (new, each)
      by Equal same rest = (subst (λ n. P (n, held.key)) (exact_unsigned serial e.0 same) new, each.1)
      by Greater same rest = (each.0, rest)

  known_made : (keys : KeyList) (serial : ℕ) (new : HeldKey) → Made keys → P (serial, new.key) → P (serial, (learned_key (key_with serial keys) new).key)
  known_made [] serial new each brought = brought
  known_made (e ∷ keys) serial new each brought = by (is_at (nat_cmp serial) e.0) refl (known_made keys serial new each.1 brought)
    where
      by : (b : Bool) → is_at (nat_cmp serial) e.0 ≡ b → P (serial, (learned_key (key_with serial keys) new).key)
          → P (serial, (learned_key (cond b (Some e.1) (key_with serial keys)) new).key)
      by true at rest = subst (λ n. P (n, e.1.key)) (sym (number_is serial e.0 at)) each.0
      by false at rest = rest

  merged_made : (keys update : KeyList) → Made keys → Made update → Made (merged_keys keys update)
  unfolding merged_keys
  merged_made keys [] each brought = each
  merged_made keys (e ∷ update) each brought =
      merged_made (with_merged_key keys e) update (inserted_made keys e.0 (learned_key (key_with e.0 keys) e.1) each (known_made keys e.0 e.1 each brought.0)) brought.1

  -- ---- calls

  abbrev pub Brings : NodeCall → Type 0
  Brings (Keys update) = Made update
  Brings (Presenting presented asked) = ⊤
  Brings (Invalidate block stamp) = ⊤

  presented_made : (node : DataNode) (clock : ℕ) (own : Presented) (asked : TokenCall) → Made node.keys → Made (presented_after node clock own asked).keys
  unfolding presented_after
  presented_made node clock own asked each = by (call_refusal node clock own asked)
    where
      by : (refused : Option NodeRefusal) → Made (usable_keys clock (presented_by node clock own asked refused).keys)
      by (Some refusal) = usable_made clock node.keys each
      by None = usable_made clock node.keys each

  pub after_made : (node : DataNode) (now : ℕ) (asked : NodeCall) → Made node.keys → Brings asked → Made (node_after node now asked).keys
  unfolding node_after
  after_made node now (Presenting own asked) each brought = presented_made node (clock_with node now) (asked_by node.id own asked) asked each
  after_made node now (Keys update) each brought = usable_made (clock_with node now) (merged_keys node.keys update) (merged_made node.keys update each brought)
  after_made node now (Invalidate block stamp) each brought = by (removal_refusal stamp (held_at block node.blocks).replica)
    where
      by : (refused : Option ReplicaRefusal) → Made (usable_keys (clock_with node now) (removed_by node block refused).keys)
      by (Some refusal) = usable_made (clock_with node now) node.keys each
      by None = usable_made (clock_with node now) node.keys each

  -- ---- messages

  abbrev pub MessageBrings : Message → Type 0
  MessageBrings (message.Node node asked) = Brings asked
  MessageBrings (message.Plan node asked) = ⊤
  MessageBrings (message.Reported node block stamp bytes) = ⊤
  MessageBrings (message.CommitRecovery node block stamp bytes nodes) = ⊤
