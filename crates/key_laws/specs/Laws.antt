-- Laws of keys that roll. They follow from the rules of rings and updates, so a slip in the rules that breaks one is refused, also where code and rule have it together.
-- (HADOOP-4359: the NameNode rolls its keys, old ones serve until the tokens under them have expired, and DataNodes learn keys with heartbeats.)
use Rattle.std.specs.Prelude.{◌≡◌, ℕ, ◌+◌, ◌<◌, ◌≤◌, true, List, [], Some, None, fold}
use Rattle.permission_bits.specs.Rights.{covers}
use Rattle.permission_bits.specs.declared.modes.Modes.{Modes}
use Rattle.block_answers.specs.declared.key_list.HeldKey.{HeldKey}
use Rattle.block_tokens.specs.KeyList.{KeyList, AreKeys, key_with, usable_keys, merged_keys}
use Rattle.block_tokens.specs.Laws.{IsIssue, IsKeyHeld}
use Rattle.block_tokens.specs.Ring.{KeyRing, IsRing, ring_after_roll, update_of, grant_of}
use Rattle.block_tokens.specs.TokenTest.{token_test}

-- a new key, and when it came
abbrev pub Roll : Type 0
Roll = List ℕ × ℕ

-- the ring behind one roll and those that follow
abbrev pub behind : KeyRing → Roll → List Roll → KeyRing
behind ring roll more = fold (λ ring roll. ring_after_roll ring roll.0 roll.1) (ring_after_roll ring roll.0 roll.1) more

-- of a ring's current key a DataNode knows nothing, or the key and no expiry
abbrev pub KnowsNoEnd : KeyList → KeyRing → Type 0
KnowsNoEnd keys ring = (held : HeldKey) → key_with ring.serial keys ≡ Some held → held ≡ record { key = ring.key; expiry = None }

-- what this DataNode knows once it merged what was sent
abbrev pub told : KeyList → KeyRing → ℕ → KeyList
told keys ring sent = merged_keys keys (update_of ring sent)

-- the key that a roll replaces is held until the last token under it has expired
abbrev pub RolledKeysServeOn : Type 0
RolledKeysServeOn = (ring : KeyRing) (roll : Roll) (more : List Roll) (keys : KeyList) (sent now : ℕ) → IsRing ring → AreKeys keys → KnowsNoEnd keys ring
    → sent < roll.1 + ring.lifetime → now < roll.1 + ring.lifetime → IsKeyHeld (told keys (behind ring roll more) sent) now ring.serial ring.key

-- and no longer
abbrev pub RolledKeysEnd : Type 0
RolledKeysEnd = (ring : KeyRing) (roll : Roll) (more : List Roll) (keys : KeyList) (sent now : ℕ) → IsRing ring → AreKeys keys → KnowsNoEnd keys ring
    → sent < roll.1 + ring.lifetime → roll.1 + ring.lifetime ≤ now → key_with ring.serial (usable_keys now (told keys (behind ring roll more) sent)) ≡ None

-- so a token that was issued before a roll is taken until it expires
abbrev pub TokensOutliveRolls : Type 0
TokensOutliveRolls = (ring : KeyRing) (roll : Roll) (more : List Roll) (keys : KeyList) (issued sent now : ℕ) (user : List ℕ) (block mode : ℕ) (modes : Modes)
    → IsRing ring → AreKeys keys → KnowsNoEnd keys ring → IsIssue ring issued user block modes → covers modes.0 mode ≡ true → issued ≤ roll.1 → sent < roll.1 + ring.lifetime
    → now < issued + ring.lifetime
    → token_test (told keys (behind ring roll more) sent) (record { now = now; caller = user; block = block; mode = mode }) (grant_of ring issued user block modes).token ≡ None

-- ---- the new key

abbrev pub RollsKeepTheOrder : Type 0
RollsKeepTheOrder = (ring : KeyRing) (roll : Roll) (more : List Roll) → IsRing ring → IsRing (behind ring roll more)

-- whoever lacks the new key has it from an update that was sent before the next roll
abbrev pub NewKeysServe : Type 0
NewKeysServe = (ring : KeyRing) (roll : Roll) (keys : KeyList) (sent now : ℕ) → IsRing ring → AreKeys keys → key_with (ring.serial + 1) keys ≡ None
    → IsKeyHeld (told keys (behind ring roll []) sent) now (ring.serial + 1) roll.0

-- a key that was replaced isn't told from its expiry on
abbrev pub ExpiredKeysAreNotTold : Type 0
ExpiredKeysAreNotTold = (ring : KeyRing) (roll : Roll) (more : List Roll) (sent : ℕ) → IsRing ring → roll.1 + ring.lifetime ≤ sent → key_with ring.serial (update_of (behind ring roll more) sent) ≡ None
