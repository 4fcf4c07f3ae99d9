-- The keys under which a NameNode issues tokens: those before, each with its expiry, and the current one, which has none yet.
-- (HADOOP-4359: the NameNode rolls its keys, and old ones serve until the tokens under them have expired.)
use Rattle.std.specs.Prelude.{ℕ, ◌+◌, List, [], ◌∷◌, ◌++◌, Option, Some, None, nat_lt, if◌then◌else◌}
use Rattle.permission_bits.specs.declared.modes.Modes.{Modes}
use Rattle.block_tokens.specs.Hmac.{hmac_sha1}
use Rattle.block_tokens.specs.KeyList.{KeyList, AreKeys, usable_keys}
use Rattle.block_tokens.specs.TokenText.{Body, coded_bytes}
use Rattle.block_tokens.specs.declared.grant.Grant.{Grant}

pub record KeyRing : Type 0 where
  pub older : KeyList
  pub serial : ℕ
  pub key : List ℕ
  pub lifetime : ℕ

-- all keys, the current one last
abbrev pub ring_keys : KeyRing → KeyList
ring_keys ring = ring.older ++ (ring.serial, record { key = ring.key; expiry = None }) ∷ []

-- serials ascend
abbrev pub IsRing : KeyRing → Type 0
IsRing ring = AreKeys (ring_keys ring)

-- the serial given next; the greatest that 4 bytes hold is never given
abbrev pub next_serial : ℕ → Option ℕ
next_serial serial = if nat_lt (serial + 1) 4294967295 then Some (serial + 1) else None

-- the current key expires once the tokens under it have, and a new one is current
abbrev pub ring_after_roll : KeyRing → List ℕ → ℕ → KeyRing
ring_after_roll ring key now = record ring {
  older = ring.older ++ (ring.serial, record { key = ring.key; expiry = Some (now + ring.lifetime) }) ∷ [];
  serial = ring.serial + 1;
  key = key;
}

-- what DataNodes are told: the keys whose expiry hasn't come, by their serials
unfoldable pub update_of : KeyRing → ℕ → KeyList
update_of ring now = usable_keys now (ring_keys ring)

-- ---- tokens

-- what a token says, with any code
abbrev pub parts_with : KeyRing → ℕ → List ℕ → ℕ → ℕ → List ℕ → Body
parts_with ring now user block modes code =
    record { expiry = now + ring.lifetime; serial = ring.serial; block = block; modes = modes; user = user; code = code }

-- bytes with their code behind them
unfoldable pub coded_token : List ℕ → List ℕ → List ℕ
coded_token key bytes = bytes ++ hmac_sha1 key bytes

-- what is granted to a user under the current key
abbrev pub grant_of : KeyRing → ℕ → List ℕ → ℕ → Modes → Grant
grant_of ring now user block modes = record {
  user = user;
  block = block;
  modes = modes;
  expiry = now + ring.lifetime;
  serial = ring.serial;
  token = coded_token ring.key (coded_bytes (parts_with ring now user block modes.0 []));
}
