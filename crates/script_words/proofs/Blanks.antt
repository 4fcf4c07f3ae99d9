-- Cutting a line at spaces, and each piece at tabs, is cutting it at both at once.
use Rattle.std.proofs.Common.{◌≡◌, ◌<◌, ◌≤◌, ◌+◌, ◌-◌, ℕ, List, [], ◌∷◌, ◌++◌, Bool, true, false, cond, length, get_or, take, drop, refl, sym, ap, ◌∙◌, subst, arith}
use Rattle.std.specs.Prelude.{◌==◌, ◌||◌, filter, slice_range}
use Rattle.std.specs.List.{flat_map, onto_first, position_or_len, slice_split}
use Rattle.std.specs.Str.{IsUtf8, IsCharBoundary}
use Rattle.std.proofs.lemmas.Bool.Decides.{nat_tests}
use Rattle.std.proofs.lemmas.List.Splits.{length-slice_split, slice_split_first, slice_split_none}
use Rattle.std.proofs.lemmas.List.{get_or-drop}
use Rattle.std.proofs.lemmas.List.Sums.{fails_before_first, passes_at_first, position_or_len_is}
use Rattle.std.proofs.lemmas.Str.{IsCharBoundary-after_ascii}
use Rattle.script_words.specs.Blanks.{IsNextBlank}
use Rattle.script_words.specs.Words.{pieces_at, blank_pieces, is_blank, is_filled, words_of}

onto_more : (b : ℕ) (xs ys : List (List ℕ)) → 0 < length xs → onto_first b xs ++ ys ≡ onto_first b (xs ++ ys)
onto_more b [] ys h = absurd (omega (arith, h))
onto_more b (x ∷ xs) ys h = refl

has_piece : (p : ℕ → Bool) (text : List ℕ) → 0 < length (slice_split p text)
has_piece p text = omega (arith, length-slice_split p text)

cut_more : (b : ℕ) (pieces : List (List ℕ)) (space : Bool) → 0 < length pieces
    → flat_map (pieces_at 9) (cond space ([] ∷ pieces) (onto_first b pieces)) ≡ cond (space || b == 9) ([] ∷ flat_map (pieces_at 9) pieces) (onto_first b (flat_map (pieces_at 9) pieces))
cut_more b pieces true h = refl
cut_more b [] false h = absurd (omega (arith, h))
cut_more b (piece ∷ pieces) false h = by_tab (b == 9)
  where
    others : List (List ℕ)
    others = flat_map (pieces_at 9) pieces

    by_tab : (tab : Bool) → cond tab ([] ∷ pieces_at 9 piece) (onto_first b (pieces_at 9 piece)) ++ others ≡ cond tab ([] ∷ (pieces_at 9 piece ++ others)) (onto_first b (pieces_at 9 piece ++ others))
    by_tab true = refl
    by_tab false = onto_more b (pieces_at 9 piece) others (has_piece (λ c. c == 9) piece)

cut_at_once : (line : List ℕ) → flat_map (pieces_at 9) (pieces_at 32 line) ≡ blank_pieces line
cut_at_once [] = refl
cut_at_once (b ∷ line) =
    cut_more b (pieces_at 32 line) (b == 32) (has_piece (λ c. c == 32) line)
    ∙ ap (λ pieces. cond (is_blank b) ([] ∷ pieces) (onto_first b pieces)) (cut_at_once line)

pub words_are : (line : List ℕ) → words_of line ≡ filter is_filled (blank_pieces line)
words_are line = ap (filter is_filled) (cut_at_once line)

-- ---- the first blank

-- the next blank of a line from where its end begins is the first blank of this end
pub first_of_end : (line rest : List ℕ) (at : ℕ) → length rest ≤ length line → rest ≡ drop (length line - length rest) line → IsNextBlank line (length line - length rest) at
    → at - (length line - length rest) ≡ position_or_len is_blank rest
first_of_end line rest at fits is next =
    sym (position_or_len_is is_blank rest (at - from) 0 (omega (arith, next.low, next.high, fits))
    (λ k lt. ap is_blank (byte k) ∙ next.passed (from + k) (omega arith) (omega (arith, next.low, lt)))
    (λ lt. let there : from + (at - from) ≡ at = omega (arith, next.low) in
    ap is_blank (byte (at - from) ∙ ap (λ n. get_or line n 0) there) ∙ next.there (omega (arith, next.low, fits, lt))))
  where
    from : ℕ
    from = length line - length rest

    byte : (k : ℕ) → get_or rest k 0 ≡ get_or line (from + k) 0
    byte k = ap (λ text. get_or text k 0) is ∙ get_or-drop from line k 0

is_low : (byte : ℕ) → is_blank byte ≡ true → byte < 128
is_low byte h = grind (arith, nat_tests, h)

low_at : (text : List ℕ) (at : ℕ) → at ≡ position_or_len is_blank text → at < length text → get_or text at 0 < 128
low_at text at is lt = is_low (get_or text at 0) (subst (λ i. is_blank (get_or text i 0) ≡ true) (sym is) (passes_at_first is_blank text 0 (subst (λ i. i < length text) is lt)))

pub can_cut_behind : (text : List ℕ) (at : ℕ) → IsUtf8 text → at ≡ position_or_len is_blank text → at < length text → IsCharBoundary text (at + 1)
can_cut_behind text at utf8 is lt = IsCharBoundary-after_ascii text at utf8 lt (low_at text at is lt)

pub first_cut : (text front back : List ℕ) (at : ℕ) → at ≡ position_or_len is_blank text → at < length text → front ≡ slice_range text 0 at → back ≡ drop (at + 1) text
    → blank_pieces text ≡ front ∷ blank_pieces back
first_cut text front back at is lt before behind =
    slice_split_first is_blank text 0 (subst (λ i. i < length text) is lt)
    ∙ ap (λ i. take i text ∷ blank_pieces (drop (i + 1) text)) (sym is)
    ∙ ap (λ piece. piece ∷ blank_pieces (drop (at + 1) text)) (sym (before ∙ whole_front))
    ∙ ap (λ rest. front ∷ blank_pieces rest) (sym behind)
  where
    whole_front : slice_range text 0 at ≡ take at text
    whole_front = let e : at - 0 ≡ at = omega arith in ap (λ n. take n text) e

pub no_cut : (text : List ℕ) (at : ℕ) → at ≡ position_or_len is_blank text → at ≡ length text → blank_pieces text ≡ text ∷ []
no_cut text at is whole = slice_split_none is_blank text (λ k d lt. fails_before_first is_blank text k d (omega (arith, is, whole, lt)))
