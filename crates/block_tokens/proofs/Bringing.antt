-- The current key of a ring, in its update and in a cache that merged it.
use Rattle.std.proofs.Common.{◌≡◌, ℕ, ◌<◌, [], ◌∷◌, ◌++◌, Some, None, refl, ap, ◌∙◌, arith}
use Rattle.std.specs.List.{AllByRecursion}
use Rattle.std.specs.List.Sorted.{IsStrictlySortedBy}
use Rattle.std.specs.Map.{keys_of}
use Rattle.std.specs.Ordering.{nat_cmp}
use Rattle.std.specs.declared.cmp.Ordering.TheVariants.{Less}
use Rattle.block_tokens.specs.KeyList.{KeyList, AreKeys, key_with, usable_keys, unless_expired, merged_keys}
use Rattle.block_tokens.specs.Laws.{IsKeyHeld}
use Rattle.block_tokens.specs.Ring.{KeyRing, IsRing, ring_keys, update_of}
use Rattle.block_answers.specs.declared.key_list.HeldKey.{HeldKey}
use Rattle.block_tokens.proofs.Ascending.{usable_ascend, less_is}
use Rattle.block_tokens.proofs.Expiries.{brought}
use Rattle.block_tokens.proofs.Updates.{at_same, at_other, merged_ascend}
use Rattle.block_tokens.proofs.Usable.{usable_key}

abbrev current : KeyRing → HeldKey
current ring = record { key = ring.key; expiry = None }

pub last_serial : (P : ℕ → Type 0) (keys : KeyList) (serial : ℕ) (held : HeldKey) → AllByRecursion P (keys_of (keys ++ (serial, held) ∷ [])) → P serial
last_serial P [] serial held h = h.0
last_serial P (e ∷ keys) serial held h = last_serial P keys serial held h.1

-- the last key of those whose serials ascend
last_found : (keys : KeyList) (serial : ℕ) (held : HeldKey) → AreKeys (keys ++ (serial, held) ∷ []) → key_with serial (keys ++ (serial, held) ∷ []) ≡ Some held
unfolding IsStrictlySortedBy
last_found [] serial held h = rw (at_same serial serial refl) refl
last_found (e ∷ keys) serial held h =
    let below : e.0 < serial = less_is e.0 serial (last_serial (λ y. nat_cmp e.0 y ≡ Less) keys serial held h.0) in
    rw (at_other serial e.0 (λ (same : serial ≡ e.0). absurd (omega arith))) (last_found keys serial held h.1)

pub key_brought : (ring : KeyRing) (keys : KeyList) (sent now : ℕ) → IsRing ring → AreKeys keys → key_with ring.serial keys ≡ None
    → IsKeyHeld (merged_keys keys (update_of ring sent)) now ring.serial ring.key
unfolding update_of
key_brought ring keys sent now ordered keys_ordered unknown =
    let update : KeyList = update_of ring sent in
    let listed : key_with ring.serial update ≡ Some (current ring) =
    usable_key sent ring.serial (ring_keys ring) ordered ∙ ap (unless_expired sent) (last_found ring.older ring.serial (current ring) ordered) in
    let held : key_with ring.serial (merged_keys keys update) ≡ Some (current ring) =
    brought update keys ring.serial (current ring) (usable_ascend sent (ring_keys ring) ordered) listed unknown in
    let usable : key_with ring.serial (usable_keys now (merged_keys keys update)) ≡ Some (current ring) =
    usable_key now ring.serial (merged_keys keys update) (merged_ascend update keys keys_ordered) ∙ ap (unless_expired now) held in
    (current ring, usable, refl)
