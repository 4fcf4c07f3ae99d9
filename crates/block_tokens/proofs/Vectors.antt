-- The definitions at known values: two vectors of RFC 2202 for HMAC-SHA-1 (test cases 2 and 6), and the text of a token.
use Rattle.std.proofs.Common.{◌≡◌, [], ◌∷◌, ◌++◌, Some, None, codes, refl}
use Rattle.std.specs.Prelude.{replicate}
use Rattle.sha1.specs.Sha1.{first_words, schedule, rounds, compress, hash_after, digest_bytes, sha1}
use Rattle.block_tokens.specs.Hmac.{hmac_sha1}
use Rattle.block_tokens.specs.Reading.{modes_at, user_at, version_1_at, parts_of}
use Rattle.block_tokens.specs.TokenText.{Body, version_1_fields, token_bytes}

short_key_code : hmac_sha1 (codes "Jefe") (codes "what do ya want for nothing?") ≡ 239 ∷ 252 ∷ 223 ∷ 106 ∷ 229 ∷ 235 ∷ 47 ∷ 162 ∷ 210 ∷ 116 ∷ 22 ∷ 213 ∷ 241 ∷ 132 ∷ 223 ∷ 156 ∷ 37 ∷ 154 ∷ 124 ∷ 121 ∷ []
unfolding hmac_sha1 first_words schedule rounds compress hash_after digest_bytes sha1
short_key_code = refl

long_key_code : hmac_sha1 (replicate 80 170) (codes "Test Using Larger Than Block-Size Key - Hash Key First") ≡ 170 ∷ 74 ∷ 229 ∷ 225 ∷ 82 ∷ 114 ∷ 208 ∷ 14 ∷ 149 ∷ 112 ∷ 86 ∷ 55 ∷ 206 ∷ 138 ∷ 59 ∷ 85 ∷ 237 ∷ 64 ∷ 33 ∷ 18 ∷ []
unfolding hmac_sha1 first_words schedule rounds compress hash_after digest_bytes sha1
long_key_code = refl

-- bob may read block 1 before 36000100, under the key with serial 1
bobs : Body
bobs = record { expiry = 36000100; serial = 1; block = 1; modes = 1; user = codes "bob"; code = replicate 20 0 }

bobs_text : token_bytes bobs ≡ 1 ∷ 0 ∷ 0 ∷ 0 ∷ 0 ∷ 2 ∷ 37 ∷ 81 ∷ 100 ∷ 0 ∷ 0 ∷ 0 ∷ 1 ∷ 0 ∷ 0 ∷ 0 ∷ 0 ∷ 0 ∷ 0 ∷ 0 ∷ 1 ∷ 1 ∷ 3 ∷ 98 ∷ 111 ∷ 98 ∷ replicate 20 0
unfolding bobs version_1_fields
bobs_text = refl

bobs_parts : parts_of (token_bytes bobs) ≡ Some bobs
unfolding bobs version_1_fields modes_at user_at version_1_at parts_of
bobs_parts = refl

more_bytes : parts_of (token_bytes bobs ++ 0 ∷ []) ≡ None
unfolding bobs version_1_fields modes_at user_at version_1_at parts_of
more_bytes = refl
