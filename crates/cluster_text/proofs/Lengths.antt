-- Words of another length than a text.
use Rattle.std.proofs.Common.{◌≡◌, ℕ, Bool, true, false, List, length, refl, ap}
use Rattle.hdfs_values.specs.Text.{same}
use Rattle.hdfs_values.proofs.Texts.{same_is}

-- a word of another length than a text isn't it
pub other_length : (word text : List ℕ) → ¬ (length word ≡ length text) → false ≡ same word text
other_length word text apart = by (same word text) refl
  where
    by : (b : Bool) → same word text ≡ b → false ≡ b
    by true is = absurd (apart (ap (λ (bytes : List ℕ). length bytes) (same_is word text is)))
    by false is = refl
