-- Lines with another number of words than any verb wants.
use Rattle.std.proofs.Common.{◌≡◌, ℕ, ◌<◌, List, [], ◌∷◌, Bor, length, map, None, Err, refl, arith}
use Rattle.hdfs_values.specs.declared.fault.IllFormed.TheVariants.{BadLine}
use Rattle.script_text.specs.Script.{op_of_words, request_of}

abbrev now : Bor (List ℕ) → List ℕ
now word = word.now

pub too_many : (verb : List ℕ) (words : List (Bor (List ℕ))) → 4 < length words → op_of_words verb (map now words) ≡ None
too_many verb [] many = absurd (omega arith)
too_many verb (a ∷ []) many = absurd (omega arith)
too_many verb (a ∷ b ∷ []) many = absurd (omega arith)
too_many verb (a ∷ b ∷ c ∷ []) many = absurd (omega arith)
too_many verb (a ∷ b ∷ c ∷ d ∷ []) many = absurd (omega arith)
too_many verb (a ∷ b ∷ c ∷ d ∷ e ∷ words) many = refl

pub no_verb : (words : List (Bor (List ℕ))) → length words < 3 → request_of (map now words) ≡ Err BadLine
no_verb [] few = refl
no_verb (a ∷ []) few = refl
no_verb (a ∷ b ∷ []) few = refl
no_verb (a ∷ b ∷ c ∷ words) few = absurd (omega arith)
