-- What stands behind a sign.
use Rattle.std.proofs.Common.{◌≡◌, ◌≢◌, ℕ, Bool, true, false, List, [], ◌∷◌, Option, Some, None, Bor, eqb, refl, sym, ap, ◌∙◌, arith}
use Rattle.std.specs.Prelude.{if◌then◌else◌, MatchOption, option_copied}
use Rattle.std.proofs.lemmas.Bool.Decides.{nat_tests}
use Rattle.cluster_text.specs.Words.{behind}

same_sign : (sign : ℕ) → eqb sign sign ≡ true
same_sign sign = grind (arith, nat_tests)

found : (sign : ℕ) (word rest : List ℕ) → word ≡ sign ∷ rest → behind sign word ≡ Some rest
found sign word rest e = ap (behind sign) e ∙ ap (λ b. if b then Some rest else None) (same_sign sign)

missed : (sign : ℕ) (word : List ℕ) → ((rest : List ℕ) → word ≢ sign ∷ rest) → behind sign word ≡ None
missed sign [] none = refl
missed sign (byte ∷ word) none = by_test (eqb byte sign) refl
  where
    by_test : (b : Bool) → eqb byte sign ≡ b → (if b then Some word else None) ≡ None
    by_test true e = absurd (none word (ap (λ b. b ∷ word) (grind (arith, nat_tests, e))))
    by_test false e = refl

pub behind_is : (sign : ℕ) (word : List ℕ) (r : Option (Bor (List ℕ))) → MatchOption r ((rest : List ℕ) → word ≢ sign ∷ rest) (λ x. word ≡ sign ∷ x.now) → option_copied r ≡ behind sign word
behind_is sign word None none = sym (missed sign word none)
behind_is sign word (Some x) is = sym (found sign word x.now is)
