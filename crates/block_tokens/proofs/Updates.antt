-- A key that is looked up after updates were merged.
use Rattle.std.proofs.Common.{◌≡◌, ◌≢◌, ℕ, ◌<◌, true, false, cond, List, [], ◌∷◌, Some, refl, sym, ap, ◌∙◌, arith}
use Rattle.std.specs.Prelude.{fold}
use Rattle.std.specs.BTreeMap.{insert_entry}
use Rattle.std.specs.List.{AllByRecursion}
use Rattle.std.specs.List.Sorted.{IsStrictlySortedBy}
use Rattle.std.specs.Map.{keys_of}
use Rattle.std.specs.Ordering.{nat_cmp, is_eq, match_ordering}
use Rattle.std.specs.declared.cmp.Ordering.TheVariants.{Less, Equal, Greater}
use Rattle.std.proofs.lemmas.Bool.Decides.{nat_tests}
use Rattle.block_tokens.specs.KeyList.{KeyList, AreKeys, key_with, learned_key, with_merged_key, merged_keys}
use Rattle.block_answers.specs.declared.key_list.HeldKey.{HeldKey}
use Rattle.block_tokens.proofs.Ascending.{less, less_is}

equal_is : (a b : ℕ) → nat_cmp a b ≡ Equal → a ≡ b
equal_is a b e = grind (arith, nat_tests)

greater_is : (a b : ℕ) → nat_cmp a b ≡ Greater → b < a
greater_is a b e = grind (arith, nat_tests)

pub at_same : (a b : ℕ) → a ≡ b → is_eq (nat_cmp a b) ≡ true
at_same a b e = grind (arith, nat_tests)

pub at_other : (a b : ℕ) → a ≢ b → is_eq (nat_cmp a b) ≡ false
at_other a b ne = grind (arith, nat_tests)

pub inserted_same : (keys : KeyList) (k : ℕ) (v : HeldKey) → key_with k (insert_entry nat_cmp keys k v) ≡ Some v
inserted_same [] k v = rw (at_same k k refl) refl
inserted_same (e ∷ keys) k v =
    elim (nat_cmp k e.0) as (λ o. nat_cmp k e.0 ≡ o → key_with k (match_ordering o ((k, v) ∷ e ∷ keys) ((e.0, v) ∷ keys) (e ∷ insert_entry nat_cmp keys k v)) ≡ Some v) [
      | Less ↦ λ h. rw (at_same k k refl) refl
      | Equal ↦ λ h. rw (at_same k e.0 (equal_is k e.0 h)) refl
      | Greater ↦ λ h. rw (at_other k e.0 (λ (q : k ≡ e.0). absurd (omega (arith, greater_is k e.0 h)))) (inserted_same keys k v)
    ] refl

pub inserted_other : (keys : KeyList) (k q : ℕ) (v : HeldKey) → q ≢ k → key_with q (insert_entry nat_cmp keys k v) ≡ key_with q keys
inserted_other [] k q v ne = rw (at_other q k ne) refl
inserted_other (e ∷ keys) k q v ne =
    elim (nat_cmp k e.0) as (λ o. nat_cmp k e.0 ≡ o → key_with q (match_ordering o ((k, v) ∷ e ∷ keys) ((e.0, v) ∷ keys) (e ∷ insert_entry nat_cmp keys k v)) ≡ key_with q (e ∷ keys)) [
      | Less ↦ λ h. rw (at_other q k ne) refl
      | Equal ↦ λ h. rw (at_other q e.0 (λ (p : q ≡ e.0). ne (p ∙ sym (equal_is k e.0 h)))) refl
      | Greater ↦ λ h. ap (λ o. cond (is_eq (nat_cmp q e.0)) (Some e.1) o) (inserted_other keys k q v ne)
    ] refl

weaker : (a b : ℕ) (ks : List ℕ) → a < b → AllByRecursion (λ y. nat_cmp b y ≡ Less) ks → AllByRecursion (λ y. nat_cmp a y ≡ Less) ks
weaker a b [] lt h = tt
weaker a b (k ∷ ks) lt h = (less a k (omega (arith, less_is b k h.0)), weaker a b ks lt h.1)

all_inserted : (P : ℕ → Type 0) (keys : KeyList) (k : ℕ) (v : HeldKey) → AllByRecursion P (keys_of keys) → P k → AllByRecursion P (keys_of (insert_entry nat_cmp keys k v))
all_inserted P [] k v h p = (p, tt)
all_inserted P (e ∷ keys) k v h p =
    elim (nat_cmp k e.0) as (λ o. AllByRecursion P (keys_of (match_ordering o ((k, v) ∷ e ∷ keys) ((e.0, v) ∷ keys) (e ∷ insert_entry nat_cmp keys k v)))) [
      | Less ↦ (p, h)
      | Equal ↦ (h.0, h.1)
      | Greater ↦ (h.0, all_inserted P keys k v h.1 p)
    ]

inserted_ascend : (keys : KeyList) (k : ℕ) (v : HeldKey) → AreKeys keys → AreKeys (insert_entry nat_cmp keys k v)
unfolding IsStrictlySortedBy
inserted_ascend [] k v h = (tt, tt)
inserted_ascend (e ∷ keys) k v h =
    elim (nat_cmp k e.0) as (λ o. nat_cmp k e.0 ≡ o → AreKeys (match_ordering o ((k, v) ∷ e ∷ keys) ((e.0, v) ∷ keys) (e ∷ insert_entry nat_cmp keys k v))) [
      | Less ↦ λ lt. ((lt, weaker k e.0 (keys_of keys) (less_is k e.0 lt) h.0), h)
      | Equal ↦ λ eq. (h.0, h.1)
      | Greater ↦ λ gt. (all_inserted (λ y. nat_cmp e.0 y ≡ Less) keys k v h.0 (less e.0 k (greater_is k e.0 gt)), inserted_ascend keys k v h.1)
    ] refl

pub merged_ascend : (update keys : KeyList) → AreKeys keys → AreKeys (merged_keys keys update)
unfolding merged_keys
merged_ascend [] keys h = h
merged_ascend (e ∷ update) keys h = merged_ascend update (with_merged_key keys e) (inserted_ascend keys e.0 (learned_key (key_with e.0 keys) e.1) h)

pub all_merged_ascend : (updates : List KeyList) (keys : KeyList) → AreKeys keys → AreKeys (fold merged_keys keys updates)
all_merged_ascend [] keys h = h
all_merged_ascend (update ∷ updates) keys h = all_merged_ascend updates (merged_keys keys update) (merged_ascend update keys h)
