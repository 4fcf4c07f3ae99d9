-- A line without the carriage return at its end.
use Rattle.std.proofs.Common.{◌≡◌, ◌≢◌, ℕ, List, [], ◌∷◌, ◌++◌, eqb, true, false, Bool, refl, sym, ap, ◌∙◌, arith}
use Rattle.std.specs.Prelude.{if◌then◌else◌}
use Rattle.std.proofs.lemmas.Bool.Decides.{nat_tests}
use Rattle.script_words.specs.Words.{without_return}

pub stripped : (line front : List ℕ) → line ≡ front ++ 13 ∷ [] → front ≡ without_return line
stripped line front e = sym (ap without_return e ∙ by_front front)
  where
    by_front : (front : List ℕ) → without_return (front ++ 13 ∷ []) ≡ front
    by_front [] = refl
    by_front (b ∷ []) = refl
    by_front (b ∷ c ∷ front) = ap (λ rest. b ∷ rest) (by_front (c ∷ front))

pub unstripped : (line : List ℕ) → ((front : List ℕ) → line ≢ front ++ 13 ∷ []) → line ≡ without_return line
unstripped [] none = refl
unstripped (b ∷ []) none = by_byte (eqb b 13) refl
  where
    by_byte : (c : Bool) → eqb b 13 ≡ c → (b ∷ []) ≡ (if c then [] else b ∷ [])
    by_byte true e = absurd (none [] (ap (λ x. x ∷ []) (grind (arith, nat_tests, e))))
    by_byte false e = refl
unstripped (b ∷ c ∷ line) none = ap (λ rest. b ∷ rest) (unstripped (c ∷ line) (λ front e. none (b ∷ front) (ap (λ l. b ∷ l) e)))
