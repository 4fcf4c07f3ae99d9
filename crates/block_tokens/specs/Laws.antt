-- Laws about tokens and keys, which follow from their definitions.
use Rattle.std.specs.Prelude.{◌≡◌, ℕ, ◌+◌, ◌<◌, ◌≤◌, ◌^◌, true, List, [], ◌++◌, Some, None, fold, IsTrue, slice_index}
use Rattle.permission_bits.specs.Modes.{is_modes}
use Rattle.permission_bits.specs.Rights.{covers}
use Rattle.hdfs_values.specs.Who.{IsWho}
use Rattle.permission_bits.specs.declared.modes.Modes.{Modes}
use Rattle.block_tokens.specs.Hmac.{hmac_sha1}
use Rattle.block_tokens.specs.KeyList.{KeyList, AreKeys, key_with, usable_keys, merged_keys}
use Rattle.block_tokens.specs.Ring.{KeyRing, IsRing, update_of, grant_of}
use Rattle.block_tokens.specs.TokenTest.{Access, token_test}
use Rattle.block_tokens.specs.TokenText.{Body, AreParts, TokenText, coded_bytes}
use Rattle.block_answers.specs.declared.key_list.HeldKey.{HeldKey}
use Rattle.block_tokens.specs.declared.refusal.TokenRefusal.TheVariants.{UnknownKey}

-- ---- texts

-- token texts with equal bytes have equal parts
abbrev pub TextsTellTheirParts : Type 0
TextsTellTheirParts = (bytes : List ℕ) (parts others : Body) → TokenText bytes parts → TokenText bytes others → parts ≡ others

-- parts have a text, and no other
abbrev pub PartsHaveOneText : Type 0
PartsHaveOneText = (parts : Body) → AreParts parts → (text : List ℕ) × TokenText text parts × ((other : List ℕ) → TokenText other parts → other ≡ text)

-- what goes on behind a token text is no token text, so none is a proper prefix of another
abbrev pub NoTextExtendsAnother : Type 0
NoTextExtendsAnother = (bytes more : List ℕ) (parts others : Body) → TokenText bytes parts → TokenText (bytes ++ more) others → more ≡ []

-- ---- keys

-- a key with the serial, and with this expiry, is known
abbrev pub IsKnownUntil : KeyList → ℕ → ℕ → Type 0
IsKnownUntil keys serial expiry = (held : HeldKey) × (key_with serial keys ≡ Some held) × (held.expiry ≡ Some expiry)

-- whatever updates are merged, a known key stays under its serial
abbrev pub KnownKeysStay : Type 0
KnownKeysStay = (keys : KeyList) (updates : List KeyList) (serial : ℕ) (held : HeldKey) → key_with serial keys ≡ Some held
    → (later : HeldKey) × (key_with serial (fold merged_keys keys updates) ≡ Some later) × (later.key ≡ held.key)

-- whatever updates are merged, a key that was once known with an expiry isn't used at or after it
abbrev pub KnownExpiryStays : Type 0
KnownExpiryStays = (keys : KeyList) (updates : List KeyList) (serial expiry now : ℕ)
    → AreKeys keys → IsKnownUntil keys serial expiry → expiry ≤ now → key_with serial (usable_keys now (fold merged_keys keys updates)) ≡ None

-- and so a token under it is refused
abbrev pub TokensEndWithTheirKey : Type 0
TokensEndWithTheirKey = (keys : KeyList) (updates : List KeyList) (expiry : ℕ) (access : Access) (bytes : List ℕ) (parts : Body)
    → AreKeys keys → IsKnownUntil keys parts.serial expiry → expiry ≤ access.now → TokenText bytes parts → token_test (fold merged_keys keys updates) access bytes ≡ Some UnknownKey

-- ---- tokens

-- this key is held under the serial, and no known expiry of it has come
abbrev pub IsKeyHeld : KeyList → ℕ → ℕ → List ℕ → Type 0
IsKeyHeld keys now serial key = (held : HeldKey) × (key_with serial (usable_keys now keys) ≡ Some held) × (held.key ≡ key)

-- the values that a ring, a moment, a block, modes and a user have by their types
pub record IsIssue (ring : KeyRing) (then_now : ℕ) (user : List ℕ) (block : ℕ) (modes : Modes) : Type 0 where
  pub serial : ring.serial < 2 ^ 32
  pub lifetime : ring.lifetime < 2 ^ 32
  pub moment : then_now ≤ 2 ^ 62
  pub block_fits : block < 2 ^ 64
  pub modes_allow : IsTrue (is_modes modes.0)
  pub named : IsWho user

-- a token that a ring issued is taken where its key is held: from its user, for its block, in each of its modes, at each moment
-- below its expiry
abbrev pub IssuedTokensAreTaken : Type 0
IssuedTokensAreTaken = (ring : KeyRing) (issued now : ℕ) (user : List ℕ) (block mode : ℕ) (modes : Modes) (keys : KeyList)
    → IsIssue ring issued user block modes → IsKeyHeld keys now ring.serial ring.key → covers modes.0 mode ≡ true → now < issued + ring.lifetime
    → token_test keys (record { now = now; caller = user; block = block; mode = mode }) (grant_of ring issued user block modes).token ≡ None

-- a cache that knew no key with the ring's serial holds the ring's key once it merged the ring's update
abbrev pub UpdatesBringTheKey : Type 0
UpdatesBringTheKey = (ring : KeyRing) (keys : KeyList) (sent now : ℕ) → IsRing ring → AreKeys keys → key_with ring.serial keys ≡ None
    → IsKeyHeld (merged_keys keys (update_of ring sent)) now ring.serial ring.key

-- everything that a token is taken for
pub record IsTokenTaken (keys : KeyList) (access : Access) (bytes : List ℕ) (parts : Body) (held : HeldKey) : Type 0 where
  pub text : TokenText bytes parts
  pub usable : key_with parts.serial (usable_keys access.now keys) ≡ Some held
  pub code : parts.code ≡ hmac_sha1 held.key (coded_bytes parts)
  pub in_time : access.now < parts.expiry
  pub user : parts.user ≡ access.caller
  pub block : parts.block ≡ access.block
  pub allowed : covers parts.modes access.mode ≡ true

-- the test names no refusal exactly where all of that holds
abbrev pub TakenWhereAllHolds : Type 0
TakenWhereAllHolds = (keys : KeyList) (access : Access) (bytes : List ℕ) (parts : Body) (held : HeldKey) → IsTokenTaken keys access bytes parts held → token_test keys access bytes ≡ None

abbrev pub AllHoldsWhereTaken : Type 0
AllHoldsWhereTaken = (keys : KeyList) (access : Access) (bytes : List ℕ) → ((i : ℕ) → slice_index bytes i < 256) → token_test keys access bytes ≡ None
    → (parts : Body) × (held : HeldKey) × IsTokenTaken keys access bytes parts held
