-- The name before the first slash.
use Rattle.std.proofs.Common.{◌≡◌, ℕ, zero, suc, ◌<◌, ◌≤◌, ◌+◌, ◌-◌, Bool, true, false, ◌&&◌, ◌||◌, cond, Some, None, List, [], ◌∷◌, length, take, drop, get_or, refl, sym, ap, ◌∙◌, true≢false, arith}
use Rattle.std.specs.List.{list_all, position_or_len, slice_split, onto_first}
use Rattle.std.proofs.lemmas.Bool.Decides.{nat_tests}
use Rattle.std.proofs.lemmas.List.{length-drop}
use Rattle.std.proofs.lemmas.List.Sums.{position_or_len_is}
use Rattle.hdfs_values.proofs.Cuts.{cut_nowhere}
use Rattle.file_paths.specs.Name.{is_name, is_name_byte}
use Rattle.file_paths.specs.Path.{is_slash}
use Rattle.file_paths.proofs.Slashes.{slash_low, cut_slash, take_whole}

-- ---- all bytes of a front

pub front_passes : (bytes : List ℕ) (n : ℕ) → n ≤ length bytes → ((k : ℕ) → k < n → is_name_byte (get_or bytes k 0) ≡ true) → list_all is_name_byte (take n bytes) ≡ true
front_passes bytes zero le each = refl
front_passes [] (suc n) le each = absurd (omega arith)
front_passes (byte ∷ bytes) (suc n) le each =
    ap (λ b. b && list_all is_name_byte (take n bytes)) (each zero (omega arith)) ∙ front_passes bytes n (omega arith) (λ k lt. each (suc k) (omega arith))

no_slash_in_names : (byte : ℕ) → is_name_byte byte ≡ true → is_slash byte ≡ false
no_slash_in_names byte h = grind (arith, nat_tests, h)

-- ---- each byte of the pieces

or_true : (b : Bool) → (b || true) ≡ true
or_true true = refl
or_true false = refl

or_false : (b : Bool) → (b || false) ≡ b
or_false true = refl
or_false false = refl

and_assoc : (a b c : Bool) → ((a && b) && c) ≡ (a && (b && c))
and_assoc true b c = refl
and_assoc false b c = refl

abbrev pieces_pass : List (List ℕ) → Bool
pieces_pass pieces = list_all (list_all is_name_byte) pieces

first_passes : (byte : ℕ) (pieces : List (List ℕ)) → pieces_pass (onto_first byte pieces) ≡ (is_name_byte byte && pieces_pass pieces)
first_passes byte [] = by (is_name_byte byte)
  where
    by : (b : Bool) → ((b && true) && true) ≡ (b && true)
    by true = refl
    by false = refl
first_passes byte (piece ∷ pieces) = and_assoc (is_name_byte byte) (list_all is_name_byte piece) (pieces_pass pieces)

-- the pieces have the bytes of the text but for slashes
all_pass : (text : List ℕ) → pieces_pass (slice_split is_slash text) ≡ list_all (λ byte. is_name_byte byte || is_slash byte) text
all_pass [] = refl
all_pass (byte ∷ text) = by (is_slash byte) (all_pass text)
  where
    rest : Bool
    rest = list_all (λ b. is_name_byte b || is_slash b) text

    by : (b : Bool) → pieces_pass (slice_split is_slash text) ≡ rest → pieces_pass (cond b ([] ∷ slice_split is_slash text) (onto_first byte (slice_split is_slash text))) ≡ ((is_name_byte byte || b) && rest)
    by true h = h ∙ sym (ap (λ b. b && rest) (or_true (is_name_byte byte)))
    by false h = first_passes byte (slice_split is_slash text) ∙ ap (λ b. is_name_byte byte && b) h ∙ sym (ap (λ b. b && rest) (or_false (is_name_byte byte)))

names_pass : (pieces : List (List ℕ)) → list_all is_name pieces ≡ true → pieces_pass pieces ≡ true
names_pass [] h = refl
names_pass (piece ∷ pieces) h = grind (arith, nat_tests, h, names_pass pieces)

passes_at : (q : ℕ → Bool) (text : List ℕ) (k : ℕ) → list_all q text ≡ true → k < length text → q (get_or text k 0) ≡ true
passes_at q [] k h lt = absurd (omega arith)
passes_at q (byte ∷ text) zero h lt = by (q byte) h
  where
    by : (b : Bool) → (b && list_all q text) ≡ true → b ≡ true
    by true h = refl
    by false h = cc
passes_at q (byte ∷ text) (suc k) h lt = passes_at q text k (by (q byte) h) (omega arith)
  where
    by : (b : Bool) → (b && list_all q text) ≡ true → list_all q text ≡ true
    by true h = h
    by false h = cc

-- a byte that is neither in a name nor a slash is in a piece that is no name
pub no_names : (text : List ℕ) (k : ℕ) → k < length text → is_name_byte (get_or text k 0) ≡ false → is_slash (get_or text k 0) ≡ false → list_all is_name (slice_split is_slash text) ≡ false
no_names text k lt bad other = by (list_all is_name (slice_split is_slash text)) refl
  where
    by : (b : Bool) → list_all is_name (slice_split is_slash text) ≡ b → b ≡ false
    by false h = refl
    by true h =
        let passes = passes_at (λ byte. is_name_byte byte || is_slash byte) text k (sym (all_pass text) ∙ names_pass (slice_split is_slash text) h) lt in
        absurd (true≢false (sym passes ∙ ap (λ b. b || is_slash (get_or text k 0)) bad ∙ other))

-- ---- the first piece

module _ (bytes : List ℕ) (end : ℕ) (bound : end ≤ length bytes) (names : (k : ℕ) → k < end → is_name_byte (get_or bytes k 0) ≡ true) (ends : end < length bytes → is_slash (get_or bytes end 0) ≡ true) where
  pub ends_at_slash : end ≡ position_or_len is_slash bytes
  ends_at_slash = sym (position_or_len_is is_slash bytes end 0 bound (λ k lt. no_slash_in_names (get_or bytes k 0) (names k lt)) ends)

-- the first piece decides first
pub first_decides : (bytes : List ℕ) (end : ℕ) → end ≤ length bytes → end ≡ position_or_len is_slash bytes
    → (rest : List (List ℕ)) × (slice_split is_slash bytes ≡ take end bytes ∷ rest)
first_decides bytes end bound at = by (length bytes - end) refl
  where
    by : (n : ℕ) → n ≡ length bytes - end → (rest : List (List ℕ)) × (slice_split is_slash bytes ≡ take end bytes ∷ rest)
    by zero none =
        let whole : end ≡ length bytes = omega (arith, none, bound) in
        let all : length bytes ≤ end = omega (arith, whole) in
        ([], cut_nowhere is_slash slash_low bytes end at whole ∙ ap (λ piece. piece ∷ []) (sym (take_whole bytes end all)))
    by (suc n) some = (_, cut_slash bytes end at (omega (arith, some)))

pub first_is_none : (bytes : List ℕ) (end : ℕ) → end ≤ length bytes → end ≡ position_or_len is_slash bytes → is_name (take end bytes) ≡ false → list_all is_name (slice_split is_slash bytes) ≡ false
first_is_none bytes end bound at none =
    let first = first_decides bytes end bound at in
    ap (list_all is_name) first.1 ∙ ap (λ b. b && list_all is_name first.0) none

-- ---- one name after another

abbrev behind_name : List ℕ → ℕ → List ℕ
behind_name rest end = take (length rest - (end + 1)) (drop (end + 1) rest)

module _ (rest : List ℕ) (end : ℕ) (at : end ≡ position_or_len is_slash rest) (named : is_name (take end rest) ≡ true) where
  -- it is the last one
  pub last_name : end ≡ length rest → (list_all is_name (slice_split is_slash rest) ≡ true) × (length (slice_split is_slash rest) ≡ 1)
  last_name whole =
      let pieces = cut_nowhere is_slash slash_low rest end at whole in
      let all : length rest ≤ end = omega (arith, whole) in
      let own : is_name rest ≡ true = ap is_name (sym (take_whole rest end all)) ∙ named in
      (ap (list_all is_name) pieces ∙ ap (λ b. b && true) own, ap length pieces)

  -- and this is decided behind it
  pub next_names : end < length rest → (list_all is_name (slice_split is_slash (behind_name rest end)) ≡ list_all is_name (slice_split is_slash rest))
      × (length (slice_split is_slash rest) ≡ length (slice_split is_slash (behind_name rest end)) + 1) × (length (behind_name rest end) + 1 ≤ length rest)
  next_names lt =
      let pieces = cut_slash rest end at lt in
      let few : length (drop (end + 1) rest) ≤ length rest - (end + 1) = omega (arith, length-drop (end + 1) rest) in
      let whole = ap length (take_whole (drop (end + 1) rest) (length rest - (end + 1)) few) in (
        sym (ap (list_all is_name) pieces ∙ ap (λ b. b && list_all is_name (slice_split is_slash (behind_name rest end))) named),
        ap length pieces ∙ omega arith,
        omega (arith, whole, length-drop (end + 1) rest, lt),
      )

pub counted : (b : Bool) (n count : ℕ) → b ≡ true → count ≡ n → Some count ≡ cond b (Some n) None
counted true n count h is = ap (λ i. Some i) is
counted false n count h is = cc
