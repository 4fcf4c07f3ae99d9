-- A text is cut at the first of an ASCII character.
use Rattle.std.proofs.Common.{Option, Some, None, ◌≡◌, ◌<◌, ◌+◌, ◌-◌, ℕ, List, ◌∷◌, [], Bool, true, false, length, get_or, take, drop, refl, sym, ap, ◌∙◌, subst, arith}
use Rattle.std.specs.Prelude.{◌==◌, slice_range}
use Rattle.std.specs.List.{position_or_len, slice_split}
use Rattle.std.specs.Option.{unwrap_or}
use Rattle.std.specs.Str.{IsUtf8, IsCharBoundary}
use Rattle.std.proofs.lemmas.Bool.Decides.{nat_tests}
use Rattle.std.proofs.lemmas.List.Splits.{slice_split_first, slice_split_none}
use Rattle.std.proofs.lemmas.List.Sums.{position_or_len_is, fails_before_first, passes_at_first}
use Rattle.std.proofs.lemmas.Str.{IsCharBoundary-before_ascii, IsCharBoundary-after_ascii}
use Rattle.memchr.specs.Find.{IsFirstByte, is_byte}

is_low_byte : (separator : ℕ) → separator < 128 → (byte : ℕ) → (byte == separator) ≡ true → byte < 128
is_low_byte separator low byte h = grind (arith, nat_tests, h)

-- separators are ASCII
module _ (separates : ℕ → Bool) (low : (byte : ℕ) → separates byte ≡ true → byte < 128) (text : List ℕ) (at : ℕ) (is : at ≡ position_or_len separates text) where
  low_at : at < length text → get_or text at 0 < 128
  low_at lt = low (get_or text at 0) (subst (λ i. separates (get_or text i 0) ≡ true) (sym is) (passes_at_first separates text 0 (subst (λ i. i < length text) is lt)))

  pub cut_before : at < length text → IsCharBoundary text at
  cut_before lt = IsCharBoundary-before_ascii text at lt (low_at lt)

  pub cut_behind : IsUtf8 text → at < length text → IsCharBoundary text (at + 1)
  cut_behind utf8 lt = IsCharBoundary-after_ascii text at utf8 lt (low_at lt)

  pub cut_first : (front back : List ℕ) → at < length text → front ≡ slice_range text 0 at → back ≡ drop (at + 1) text → slice_split separates text ≡ front ∷ slice_split separates back
  cut_first front back lt before behind =
      slice_split_first separates text 0 (subst (λ i. i < length text) is lt)
      ∙ ap (λ i. take i text ∷ slice_split separates (drop (i + 1) text)) (sym is)
      ∙ ap (λ piece. piece ∷ slice_split separates (drop (at + 1) text)) (sym (before ∙ whole_front))
      ∙ ap (λ rest. front ∷ slice_split separates rest) (sym behind)
    where
      whole_front : slice_range text 0 at ≡ take at text
      whole_front = let e : at - 0 ≡ at = omega arith in ap (λ n. take n text) e

  pub cut_nowhere : at ≡ length text → slice_split separates text ≡ text ∷ []
  cut_nowhere whole = slice_split_none separates text (λ k d lt. fails_before_first separates text k d (omega (arith, is, whole, lt)))

module _ (separator : ℕ) (low : separator < 128) (text : List ℕ) (at : ℕ) (is : at ≡ position_or_len (λ b. b == separator) text) where
  pub cuts_before : at < length text → IsCharBoundary text at
  cuts_before lt = cut_before (λ b. b == separator) (is_low_byte separator low) text at is lt

  pub cuts_behind : IsUtf8 text → at < length text → IsCharBoundary text (at + 1)
  cuts_behind utf8 lt = cut_behind (λ b. b == separator) (is_low_byte separator low) text at is utf8 lt

  pub cuts_first : (front back : List ℕ) → at < length text → front ≡ slice_range text 0 at → back ≡ drop (at + 1) text → slice_split (λ b. b == separator) text ≡ front ∷ slice_split (λ b. b == separator) back
  cuts_first front back lt before behind = cut_first (λ b. b == separator) (is_low_byte separator low) text at is front back lt before behind

  pub cuts_nowhere : at ≡ length text → slice_split (λ b. b == separator) text ≡ text ∷ []
  cuts_nowhere whole = cut_nowhere (λ b. b == separator) (is_low_byte separator low) text at is whole

-- ---- the place that a search finds

not_true : (b : Bool) → ¬ (b ≡ true) → b ≡ false
not_true true never = absurd (never refl)
not_true false never = refl

pub place_of_byte : (byte : ℕ) (text : List ℕ) (found : Option ℕ) → IsFirstByte (is_byte byte) text found → unwrap_or found (length text) ≡ position_or_len (λ b. b == byte) text
place_of_byte byte text None h = sym (position_or_len_is (λ b. b == byte) text (length text) 0 (omega arith) (λ k lt. not_true (get_or text k 0 == byte) (h k (omega arith) lt)) (λ lt. absurd (omega (arith, lt))))
place_of_byte byte text (Some at) h = sym (position_or_len_is (λ b. b == byte) text at 0 (omega (arith, h.0.high)) (λ k lt. not_true (get_or text k 0 == byte) (h.0.before k (omega arith) lt)) (λ _. h.1))
