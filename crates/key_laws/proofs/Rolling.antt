-- A key of a ring that rolls, in the ring, in its updates and in what a DataNode knows.
use Rattle.std.proofs.Common.{◌≡◌, ◌≢◌, ℕ, ◌+◌, ◌<◌, ◌≤◌, true, false, cond, nat_lt, List, [], ◌∷◌, ◌++◌, Option, Some, None, refl, sym, ap, ◌∙◌, arith}
use Rattle.std.specs.Prelude.{fold}
use Rattle.std.specs.List.Sorted.{IsStrictlySortedBy}
use Rattle.std.specs.Ordering.{nat_cmp, is_eq}
use Rattle.std.specs.declared.cmp.Ordering.TheVariants.{Less}
use Rattle.std.proofs.lemmas.Bool.Decides.{nat_tests}
use Rattle.block_answers.specs.declared.key_list.HeldKey.{HeldKey}
use Rattle.block_tokens.specs.KeyList.{KeyList, AreKeys, key_with, usable_keys, unless_expired, learned_key}
use Rattle.block_tokens.specs.Ring.{KeyRing, IsRing, ring_keys, ring_after_roll, update_of}
use Rattle.block_tokens.proofs.Ascending.{keys_push, less_is, usable_ascend}
use Rattle.block_tokens.proofs.Bringing.{key_brought, last_serial}
use Rattle.block_tokens.proofs.Taking.{issued_taken}
use Rattle.block_tokens.proofs.Updates.{at_same, at_other, merged_ascend}
use Rattle.block_tokens.proofs.Usable.{usable_key}
use Rattle.key_laws.specs.Laws.{ExpiredKeysAreNotTold, KnowsNoEnd, NewKeysServe, Roll, RolledKeysEnd, RolledKeysServeOn, RollsKeepTheOrder, TokensOutliveRolls, behind, told}
use Rattle.key_laws.proofs.Merging.{learned}

-- ---- the last key of a list

-- it is found whatever is kept of it
found_last : (keys : KeyList) (serial : ℕ) (held other : HeldKey) → AreKeys (keys ++ (serial, held) ∷ []) → key_with serial (keys ++ (serial, other) ∷ []) ≡ Some other
unfolding IsStrictlySortedBy
found_last [] serial held other h = rw (at_same serial serial refl) refl
found_last (e ∷ keys) serial held other h =
    let below : e.0 < serial = less_is e.0 serial (last_serial (λ y. nat_cmp e.0 y ≡ Less) keys serial held h.0) in
    rw (at_other serial e.0 (λ (same : serial ≡ e.0). absurd (omega arith))) (found_last keys serial held other h.1)

-- and hides no other
before_last : (keys : KeyList) (serial last : ℕ) (held : HeldKey) → serial ≢ last → key_with serial (keys ++ (last, held) ∷ []) ≡ key_with serial keys
before_last [] serial last held apart = rw (at_other serial last apart) refl
before_last (e ∷ keys) serial last held apart = ap (λ known. cond (is_eq (nat_cmp serial e.0)) (Some e.1) known) (before_last keys serial last held apart)

-- ---- a ring that keeps an older key

abbrev current : KeyRing → HeldKey
current ring = record { key = ring.key; expiry = None }

abbrev replaced : KeyRing → Roll → HeldKey
replaced ring roll = record { key = ring.key; expiry = Some (roll.1 + ring.lifetime) }

record Keeps (ring : KeyRing) (serial : ℕ) (held : HeldKey) : Type 0 where
  ordered : IsRing ring
  below : serial < ring.serial
  listed : key_with serial (ring_keys ring) ≡ Some held

next_ring : (ring : KeyRing) (roll : Roll) → IsRing ring → IsRing (ring_after_roll ring roll.0 roll.1)
next_ring ring roll h = keys_push ring.older ring.serial (ring.serial + 1) (current ring) (replaced ring roll) (record { key = roll.0; expiry = None }) h (omega arith)

keeps_replaced : (ring : KeyRing) (roll : Roll) → IsRing ring → Keeps (ring_after_roll ring roll.0 roll.1) ring.serial (replaced ring roll)
keeps_replaced ring roll h = record {
  ordered = next_ring ring roll h;
  below = omega arith;
  listed =
      before_last (ring.older ++ (ring.serial, replaced ring roll) ∷ []) ring.serial (ring.serial + 1) (record { key = roll.0; expiry = None }) (λ (same : ring.serial ≡ ring.serial + 1). absurd (omega arith))
      ∙ found_last ring.older ring.serial (current ring) (replaced ring roll) h;
}

keeps_older : (ring : KeyRing) (roll : Roll) (serial : ℕ) (held : HeldKey) → Keeps ring serial held → Keeps (ring_after_roll ring roll.0 roll.1) serial held
keeps_older ring roll serial held kept =
    let below : serial < ring.serial = kept.below in
    let apart : serial ≢ ring.serial = λ same. absurd (omega arith) in
    record {
      ordered = next_ring ring roll kept.ordered;
      below = omega arith;
      listed =
          before_last (ring.older ++ (ring.serial, replaced ring roll) ∷ []) serial (ring.serial + 1) (record { key = roll.0; expiry = None }) (λ (same : serial ≡ ring.serial + 1). absurd (omega arith))
          ∙ before_last ring.older serial ring.serial (replaced ring roll) apart
          ∙ sym (before_last ring.older serial ring.serial (current ring) apart)
          ∙ kept.listed;
    }

keeps_on : (ring : KeyRing) (more : List Roll) (serial : ℕ) (held : HeldKey) → Keeps ring serial held → Keeps (fold (λ ring roll. ring_after_roll ring roll.0 roll.1) ring more) serial held
keeps_on ring [] serial held kept = kept
keeps_on ring (roll ∷ more) serial held kept = keeps_on (ring_after_roll ring roll.0 roll.1) more serial held (keeps_older ring roll serial held kept)

keeps : (ring : KeyRing) (roll : Roll) (more : List Roll) → IsRing ring → Keeps (behind ring roll more) ring.serial (replaced ring roll)
keeps ring roll more h = keeps_on (ring_after_roll ring roll.0 roll.1) more ring.serial (replaced ring roll) (keeps_replaced ring roll h)

pub ordered : RollsKeepTheOrder
ordered ring roll more h = (keeps ring roll more h).ordered

-- ---- in its updates

in_time : (now expiry : ℕ) (key : List ℕ) → now < expiry → unless_expired now (Some (record { key = key; expiry = Some expiry })) ≡ Some (record { key = key; expiry = Some expiry })
in_time now expiry key lt = let test : nat_lt now expiry ≡ true = grind (arith, nat_tests) in rw test refl

too_late : (now expiry : ℕ) (key : List ℕ) → expiry ≤ now → unless_expired now (Some (record { key = key; expiry = Some expiry })) ≡ None
too_late now expiry key le = let test : nat_lt now expiry ≡ false = grind (arith, nat_tests) in rw test refl

listed_in : (ring : KeyRing) (roll : Roll) (more : List Roll) (sent : ℕ) → IsRing ring → key_with ring.serial (update_of (behind ring roll more) sent) ≡ unless_expired sent (Some (replaced ring roll))
unfolding update_of
listed_in ring roll more sent h =
    let kept = keeps ring roll more h in
    usable_key sent ring.serial (ring_keys (behind ring roll more)) kept.ordered ∙ ap (unless_expired sent) kept.listed

pub expired : ExpiredKeysAreNotTold
expired ring roll more sent h late = listed_in ring roll more sent h ∙ too_late sent (roll.1 + ring.lifetime) ring.key late

-- ---- in what a DataNode knows

learns : (key : List ℕ) (expiry : ℕ) (known : Option HeldKey) → ((held : HeldKey) → known ≡ Some held → held ≡ record { key = key; expiry = None })
    → learned_key known (record { key = key; expiry = Some expiry }) ≡ record { key = key; expiry = Some expiry }
learns key expiry None h = refl
learns key expiry (Some held) h = rw (h held refl) refl

ordered_update : (ring : KeyRing) (sent : ℕ) → IsRing ring → AreKeys (update_of ring sent)
unfolding update_of
ordered_update ring sent h = usable_ascend sent (ring_keys ring) h

knows : (ring : KeyRing) (roll : Roll) (more : List Roll) (keys : KeyList) (sent : ℕ) → IsRing ring → KnowsNoEnd keys ring → sent < roll.1 + ring.lifetime
    → key_with ring.serial (told keys (behind ring roll more) sent) ≡ Some (replaced ring roll)
knows ring roll more keys sent h unended lt =
    let update : KeyList = update_of (behind ring roll more) sent in
    let listed : key_with ring.serial update ≡ Some (replaced ring roll) = listed_in ring roll more sent h ∙ in_time sent (roll.1 + ring.lifetime) ring.key lt in
    learned update keys ring.serial (replaced ring roll) (ordered_update (behind ring roll more) sent (ordered ring roll more h)) listed
    ∙ ap Some (learns ring.key (roll.1 + ring.lifetime) (key_with ring.serial keys) unended)

usable : (ring : KeyRing) (roll : Roll) (more : List Roll) (keys : KeyList) (sent now : ℕ) → IsRing ring → AreKeys keys → KnowsNoEnd keys ring → sent < roll.1 + ring.lifetime
    → key_with ring.serial (usable_keys now (told keys (behind ring roll more) sent)) ≡ unless_expired now (Some (replaced ring roll))
usable ring roll more keys sent now h are unended lt =
    usable_key now ring.serial (told keys (behind ring roll more) sent) (merged_ascend (update_of (behind ring roll more) sent) keys are)
    ∙ ap (unless_expired now) (knows ring roll more keys sent h unended lt)

pub served : RolledKeysServeOn
served ring roll more keys sent now h are unended lt below =
    (replaced ring roll, usable ring roll more keys sent now h are unended lt ∙ in_time now (roll.1 + ring.lifetime) ring.key below, refl)

pub ended : RolledKeysEnd
ended ring roll more keys sent now h are unended lt late = usable ring roll more keys sent now h are unended lt ∙ too_late now (roll.1 + ring.lifetime) ring.key late

pub tokens : TokensOutliveRolls
tokens ring roll more keys issued sent now user block mode modes h are unended fits covered before lt below =
    let in_time : now < roll.1 + ring.lifetime = omega arith in
    issued_taken ring issued now user block mode modes (told keys (behind ring roll more) sent) fits (served ring roll more keys sent now h are unended lt in_time) covered below

-- ---- the new key

pub fresh : NewKeysServe
fresh ring roll keys sent now h are unknown = key_brought (ring_after_roll ring roll.0 roll.1) keys sent now (next_ring ring roll h) are unknown
