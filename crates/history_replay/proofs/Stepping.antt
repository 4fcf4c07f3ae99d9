-- Steps of a search.
use Rattle.std.proofs.Common.{◌≡◌, ℕ, ◌+◌, ◌<◌, ◌⊎◌, inl, inr, sym, subst, arith}
use Rattle.std.proofs.lemmas.Bool.{cases_eq}

-- what holds below a number and at it
pub below_step : (P : ℕ → Type 0) (i : ℕ) → ((n : ℕ) → n < i → P n) → P i → (n : ℕ) → n < i + 1 → P n
below_step P i below here n less = by (cases_eq n i)
  where
    by : (n ≡ i) ⊎ (n ≡ i → ⊥) → P n
    by (inl e) = subst P (sym e) here
    by (inr other) = below n (omega arith)
