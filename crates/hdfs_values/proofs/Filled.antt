-- A short text's bytes before zeros, put together of its first bytes and of those behind them.
use Rattle.std.proofs.Common.{◌≡◌, ℕ, ◌-◌, ◌<◌, ◌≤◌, List, [], ◌∷◌, ◌++◌, length, take, drop, replicate, refl, arith}
use borrow.Rule.Slice.PartMut.{put_mid}

-- four to seven bytes: the first four, and twice two of what is behind them
pub four_to_seven_are : (xs : List ℕ) → 4 ≤ length xs → length xs < 8
    → let rest : List ℕ = drop 4 xs ++ replicate (12 - length xs) 0 in
    put_mid 6 2 (put_mid 4 2 (take 4 xs ++ replicate 10 0) (take 2 rest)) (take 2 (drop 2 rest)) ≡ xs ++ replicate (14 - length xs) 0
four_to_seven_are [] least most = absurd (omega arith)
four_to_seven_are (a ∷ []) least most = absurd (omega arith)
four_to_seven_are (a ∷ b ∷ []) least most = absurd (omega arith)
four_to_seven_are (a ∷ b ∷ c ∷ []) least most = absurd (omega arith)
four_to_seven_are (a ∷ b ∷ c ∷ d ∷ []) least most = refl
four_to_seven_are (a ∷ b ∷ c ∷ d ∷ e ∷ []) least most = refl
four_to_seven_are (a ∷ b ∷ c ∷ d ∷ e ∷ f ∷ []) least most = refl
four_to_seven_are (a ∷ b ∷ c ∷ d ∷ e ∷ f ∷ g ∷ []) least most = refl
four_to_seven_are (a ∷ b ∷ c ∷ d ∷ e ∷ f ∷ g ∷ h ∷ xs) least most = absurd (omega arith)

-- two or three bytes: the first two, and two of what is behind them
pub two_or_three_are : (xs : List ℕ) → 2 ≤ length xs → length xs < 4
    → put_mid 2 2 (take 2 xs ++ replicate 12 0) (take 2 (drop 2 xs ++ replicate (10 - length xs) 0)) ≡ xs ++ replicate (14 - length xs) 0
two_or_three_are [] least most = absurd (omega arith)
two_or_three_are (a ∷ []) least most = absurd (omega arith)
two_or_three_are (a ∷ b ∷ []) least most = refl
two_or_three_are (a ∷ b ∷ c ∷ []) least most = refl
two_or_three_are (a ∷ b ∷ c ∷ d ∷ xs) least most = absurd (omega arith)
