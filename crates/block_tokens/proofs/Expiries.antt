-- A known expiry stays known, and the keys of an update are held.
use Rattle.std.proofs.Common.{◌≡◌, ◌≢◌, ℕ, ◌≤◌, List, [], ◌∷◌, Option, Some, None, refl, sym, ap, ◌∙◌, arith, inl, inr}
use Rattle.std.specs.Prelude.{fold}
use Rattle.std.specs.List.{AllByRecursion}
use Rattle.std.specs.List.Sorted.{IsStrictlySortedBy}
use Rattle.std.specs.Map.{keys_of}
use Rattle.std.specs.Ordering.{nat_cmp}
use Rattle.std.specs.declared.cmp.Ordering.TheVariants.{Less}
use Rattle.std.proofs.lemmas.Bool.{cases_eq, le-ltb}
use Rattle.block_tokens.specs.KeyList.{KeyList, AreKeys, key_with, usable_keys, unless_expired, learned_key, with_merged_key, merged_keys}
use Rattle.block_tokens.specs.Laws.{IsKnownUntil}
use Rattle.block_answers.specs.declared.key_list.HeldKey.{HeldKey}
use Rattle.block_tokens.proofs.Ascending.{less_is}
use Rattle.block_tokens.proofs.Updates.{at_same, at_other, inserted_same, inserted_other, all_merged_ascend}
use Rattle.block_tokens.proofs.Usable.{usable_key}

known_learned : (known : Option HeldKey) (held new : HeldKey) (expiry : ℕ) → known ≡ Some held → held.expiry ≡ Some expiry → (learned_key known new).expiry ≡ Some expiry
known_learned known held new expiry k e = rw (k, e) refl

known_one : (keys : KeyList) (entry : ℕ × HeldKey) (serial expiry : ℕ) → IsKnownUntil keys serial expiry → IsKnownUntil (with_merged_key keys entry) serial expiry
known_one keys entry serial expiry h = elim (cases_eq serial entry.0) [
  | inl same ↦
      let known : key_with entry.0 keys ≡ Some h.0 = ap (λ (s : ℕ). key_with s keys) (sym same) ∙ h.1 in
      let new : HeldKey = learned_key (key_with entry.0 keys) entry.1 in
      (new, ap (λ (s : ℕ). key_with s (with_merged_key keys entry)) same ∙ inserted_same keys entry.0 new, known_learned (key_with entry.0 keys) h.0 entry.1 expiry known h.2)
  | inr other ↦ (h.0, inserted_other keys entry.0 serial (learned_key (key_with entry.0 keys) entry.1) other ∙ h.1, h.2)
]

known_merged : (update keys : KeyList) (serial expiry : ℕ) → IsKnownUntil keys serial expiry → IsKnownUntil (merged_keys keys update) serial expiry
unfolding merged_keys
known_merged [] keys serial expiry h = h
known_merged (e ∷ update) keys serial expiry h = known_merged update (with_merged_key keys e) serial expiry (known_one keys e serial expiry h)

known_all : (updates : List KeyList) (keys : KeyList) (serial expiry : ℕ) → IsKnownUntil keys serial expiry → IsKnownUntil (fold merged_keys keys updates) serial expiry
known_all [] keys serial expiry h = h
known_all (update ∷ updates) keys serial expiry h = known_all updates (merged_keys keys update) serial expiry (known_merged update keys serial expiry h)

expired : (now expiry : ℕ) (known : Option HeldKey) (held : HeldKey) → known ≡ Some held → held.expiry ≡ Some expiry → expiry ≤ now → unless_expired now known ≡ None
expired now expiry known held k e le = rw (k, e, le-ltb now expiry le) refl

pub expiry_stays : (keys : KeyList) (updates : List KeyList) (serial expiry now : ℕ) → AreKeys keys → IsKnownUntil keys serial expiry → expiry ≤ now → key_with serial (usable_keys now (fold merged_keys keys updates)) ≡ None
expiry_stays keys updates serial expiry now ordered h le =
    let all : KeyList = fold merged_keys keys updates in
    let known = known_all updates keys serial expiry h in
    usable_key now serial all (all_merged_ascend updates keys ordered) ∙ expired now expiry (key_with serial all) known.0 known.1 known.2 le

-- ---- what an update brings

pub some_is_none : {X : Type 0} {x : X} → Some x ≡ None → ⊥
some_is_none e = cc

-- a list without the serial changes nothing at it
pub untouched : (update keys : KeyList) (serial : ℕ) → key_with serial update ≡ None → key_with serial (merged_keys keys update) ≡ key_with serial keys
unfolding merged_keys
untouched [] keys serial h = refl
untouched (e ∷ update) keys serial h = elim (cases_eq serial e.0) [
  | inl same ↦ absurd (some_is_none (rw (at_same serial e.0 same) at h))
  | inr other ↦
      let rest : key_with serial update ≡ None = rw (at_other serial e.0 other) at h in
      untouched update (with_merged_key keys e) serial rest ∙ inserted_other keys e.0 serial (learned_key (key_with e.0 keys) e.1) other
]

-- serials above the first
pub absent : (keys : KeyList) (serial : ℕ) → AllByRecursion (λ y. nat_cmp serial y ≡ Less) (keys_of keys) → key_with serial keys ≡ None
absent [] serial h = refl
absent (e ∷ keys) serial h =
    let other : serial ≢ e.0 = λ same. absurd (omega (arith, less_is serial e.0 h.0)) in
    rw (at_other serial e.0 other) (absent keys serial h.1)

-- the key that a list has is held, where none with its serial was known
pub brought : (update keys : KeyList) (serial : ℕ) (held : HeldKey) → AreKeys update → key_with serial update ≡ Some held → key_with serial keys ≡ None → key_with serial (merged_keys keys update) ≡ Some held
unfolding IsStrictlySortedBy merged_keys
brought [] keys serial held ordered listed unknown = absurd (some_is_none (sym listed))
brought (e ∷ update) keys serial held ordered listed unknown = elim (cases_eq serial e.0) [
  | inl same ↦
      let new : HeldKey = learned_key (key_with e.0 keys) e.1 in
      let is_first : Some e.1 ≡ Some held = rw (at_same serial e.0 same) at listed in
      let unknown_first : key_with e.0 keys ≡ None = ap (λ (s : ℕ). key_with s keys) (sym same) ∙ unknown in
      let learns : new ≡ e.1 = rw unknown_first refl in
      let rest : key_with serial update ≡ None = ap (λ (s : ℕ). key_with s update) same ∙ absent update e.0 ordered.0 in
      untouched update (with_merged_key keys e) serial rest ∙ ap (λ (s : ℕ). key_with s (with_merged_key keys e)) same ∙ inserted_same keys e.0 new ∙ ap Some learns ∙ is_first
  | inr other ↦
      let rest : key_with serial update ≡ Some held = rw (at_other serial e.0 other) at listed in
      brought update (with_merged_key keys e) serial held ordered.1 rest (inserted_other keys e.0 serial (learned_key (key_with e.0 keys) e.1) other ∙ unknown)
]

-- ---- a known key stays

abbrev IsKept : KeyList → ℕ → List ℕ → Type 0
IsKept keys serial key = (held : HeldKey) × (key_with serial keys ≡ Some held) × (held.key ≡ key)

kept_learned : (known : Option HeldKey) (held new : HeldKey) (key : List ℕ) → known ≡ Some held → held.key ≡ key → (learned_key known new).key ≡ key
kept_learned known held new key k e = rw k e

kept_one : (keys : KeyList) (entry : ℕ × HeldKey) (serial : ℕ) (key : List ℕ) → IsKept keys serial key → IsKept (with_merged_key keys entry) serial key
kept_one keys entry serial key h = elim (cases_eq serial entry.0) [
  | inl same ↦
      let known : key_with entry.0 keys ≡ Some h.0 = ap (λ (s : ℕ). key_with s keys) (sym same) ∙ h.1 in
      let new : HeldKey = learned_key (key_with entry.0 keys) entry.1 in
      (new, ap (λ (s : ℕ). key_with s (with_merged_key keys entry)) same ∙ inserted_same keys entry.0 new, kept_learned (key_with entry.0 keys) h.0 entry.1 key known h.2)
  | inr other ↦ (h.0, inserted_other keys entry.0 serial (learned_key (key_with entry.0 keys) entry.1) other ∙ h.1, h.2)
]

kept_merged : (update keys : KeyList) (serial : ℕ) (key : List ℕ) → IsKept keys serial key → IsKept (merged_keys keys update) serial key
unfolding merged_keys
kept_merged [] keys serial key h = h
kept_merged (e ∷ update) keys serial key h = kept_merged update (with_merged_key keys e) serial key (kept_one keys e serial key h)

kept_all : (updates : List KeyList) (keys : KeyList) (serial : ℕ) (key : List ℕ) → IsKept keys serial key → IsKept (fold merged_keys keys updates) serial key
kept_all [] keys serial key h = h
kept_all (update ∷ updates) keys serial key h = kept_all updates (merged_keys keys update) serial key (kept_merged update keys serial key h)

pub key_stays : (keys : KeyList) (updates : List KeyList) (serial : ℕ) (held : HeldKey) → key_with serial keys ≡ Some held → IsKept (fold merged_keys keys updates) serial held.key
key_stays keys updates serial held k = kept_all updates keys serial held.key (held, k, refl)
