-- HMAC over SHA-1, with blocks of 64 bytes: H((K xor opad) ++ H((K xor ipad) ++ text)).
-- (RFC 2104, "Definition of HMAC".)
use Rattle.std.specs.Prelude.{ℕ, ◌-◌, List, ◌++◌, length, map, replicate, nat_lt, bit_xor, if◌then◌else◌}
use Rattle.sha1.specs.Sha1.{Holds, sha1}
use Rattle.sha1.specs.declared.Sha1.{Sha1}

-- a key longer than a block is hashed first
abbrev pub short_key : List ℕ → List ℕ
short_key key = if nat_lt 64 (length key) then sha1 key else key

-- zeros fill the key up to a block
abbrev pub block_key : List ℕ → List ℕ
block_key key = short_key key ++ replicate (64 - length (short_key key)) 0

-- each byte with the bits of the pad turned
abbrev pub xor_of : ℕ → List ℕ → List ℕ
xor_of pad block = map (λ byte. bit_xor byte pad) block

-- the hash of a padded block with the text behind it
abbrev pub keyed_hash : ℕ → List ℕ → List ℕ → List ℕ
keyed_hash pad block text = sha1 (xor_of pad block ++ text)

-- the inner pad is the byte 36, the outer one 5c
unfoldable pub hmac_sha1 : List ℕ → List ℕ → List ℕ
hmac_sha1 key text = keyed_hash 0x5c (block_key key) (keyed_hash 0x36 (block_key key) text)

-- ---- what is kept beside a key

-- one hasher has taken the key's block under the inner pad, the other under the outer one
abbrev pub AreStarted : List ℕ → Sha1 → Sha1 → Type 0
AreStarted key inner outer = Holds inner (xor_of 0x36 (block_key key)) × Holds outer (xor_of 0x5c (block_key key))
