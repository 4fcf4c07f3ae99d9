-- Four bytes of ASCII are a text.
use Rattle.std.proofs.Common.{ℕ, zero, suc, ◌<◌, [], ◌∷◌, arith}
use Rattle.std.specs.Str.{IsUtf8, IsAscii}
use Rattle.std.proofs.lemmas.Str.{IsUtf8-from_ascii}

pub four_are_text : (a b c d : ℕ) → a < 128 → b < 128 → c < 128 → d < 128 → IsUtf8 (a ∷ b ∷ c ∷ d ∷ [])
four_are_text a b c d first second third fourth = IsUtf8-from_ascii (a ∷ b ∷ c ∷ d ∷ []) low
  where
    low : IsAscii (a ∷ b ∷ c ∷ d ∷ [])
    low zero = first
    low (suc zero) = second
    low (suc (suc zero)) = third
    low (suc (suc (suc zero))) = fourth
    low (suc (suc (suc (suc i)))) = omega arith
