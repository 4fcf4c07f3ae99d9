-- A grant is made of its parts.
use Rattle.std.proofs.Common.{◌≡◌, ℕ, ◌+◌, List, [], refl, sym, ap, ◌∙◌}
use Rattle.permission_bits.specs.declared.modes.Modes.{Modes}
use Rattle.block_tokens.specs.Ring.{KeyRing, grant_of, coded_token, parts_with}
use Rattle.block_tokens.specs.TokenText.{Body, version_1_fields, coded_bytes}
use Rattle.block_tokens.specs.declared.grant.Grant.{Grant}

-- the code is none of the bytes before it
pub code_apart : (parts : Body) (code : List ℕ) → version_1_fields parts ≡ version_1_fields (record parts { code = code })
unfolding version_1_fields
code_apart parts code = refl

pub bytes_of : (ring : KeyRing) (now : ℕ) (user : List ℕ) (block modes expiry : ℕ) (name code bytes : List ℕ) → expiry ≡ now + ring.lifetime → name ≡ user
    → bytes ≡ coded_bytes (record { expiry = expiry; serial = ring.serial; block = block; modes = modes; user = name; code = code })
    → bytes ≡ coded_bytes (parts_with ring now user block modes [])
unfolding version_1_fields
bytes_of ring now user block modes expiry name code bytes e n b = b ∙ rw (e, n) refl

abbrev granted : KeyRing → List ℕ → ℕ → Modes → ℕ → List ℕ → Grant
granted ring user block modes expiry token = record { user = user; block = block; modes = modes; expiry = expiry; serial = ring.serial; token = token }

pub grant_made : (inside ring : KeyRing) (now : ℕ) (user copy name code bytes token : List ℕ) (block : ℕ) (modes : Modes) (expiry : ℕ)
    → inside ≡ ring → expiry ≡ now + ring.lifetime → copy ≡ user → name ≡ user
    → bytes ≡ coded_bytes (record { expiry = expiry; serial = inside.serial; block = block; modes = modes.0; user = name; code = code })
    → token ≡ coded_token inside.key bytes → granted inside copy block modes expiry token ≡ grant_of ring now user block modes
grant_made inside ring now user copy name code bytes token block modes expiry v e k n b t =
    let e' : expiry ≡ now + inside.lifetime = e ∙ ap (λ (r : KeyRing). now + r.lifetime) (sym v) in
    let made : bytes ≡ coded_bytes (parts_with inside now user block modes.0 []) = bytes_of inside now user block modes.0 expiry name code bytes e' n b in
    rw (← v, t, made, e', k) refl
