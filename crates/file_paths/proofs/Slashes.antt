-- Where a slash first stands.
use Rattle.std.proofs.Common.{◌≡◌, ℕ, ◌<◌, ◌≤◌, ◌+◌, ◌-◌, true, List, [], ◌∷◌, length, take, drop, refl, sym, ap, ◌∙◌, subst, zero, suc, arith}
use Rattle.std.specs.List.{position_or_len, slice_split}
use Rattle.std.proofs.lemmas.Bool.Decides.{nat_tests}
use Rattle.std.proofs.lemmas.List.{length-drop}
use Rattle.std.proofs.lemmas.List.Splits.{slice_split_first}
use Rattle.file_paths.specs.Path.{is_slash}

pub slash_low : (byte : ℕ) → is_slash byte ≡ true → byte < 128
slash_low byte h = grind (arith, nat_tests, h)

pub take_whole : {X : Type 0} (xs : List X) (n : ℕ) → length xs ≤ n → take n xs ≡ xs
take_whole [] zero le = refl
take_whole [] (suc n) le = refl
take_whole (x ∷ xs) zero le = absurd (omega arith)
take_whole (x ∷ xs) (suc n) le = ap (λ ys. x ∷ ys) (take_whole xs n (omega arith))

-- what stands before it, and behind it
pub cut_slash : (bytes : List ℕ) (at : ℕ) → at ≡ position_or_len is_slash bytes → at < length bytes
    → slice_split is_slash bytes ≡ take at bytes ∷ slice_split is_slash (take (length bytes - (at + 1)) (drop (at + 1) bytes))
cut_slash bytes at is lt =
    let behind : take (length bytes - (at + 1)) (drop (at + 1) bytes) ≡ drop (at + 1) bytes =
    take_whole (drop (at + 1) bytes) (length bytes - (at + 1)) (omega (arith, length-drop (at + 1) bytes)) in
    slice_split_first is_slash bytes 0 (subst (λ i. i < length bytes) is lt)
    ∙ ap (λ i. take i bytes ∷ slice_split is_slash (drop (i + 1) bytes)) (sym is)
    ∙ ap (λ rest. take at bytes ∷ slice_split is_slash rest) (sym behind)
