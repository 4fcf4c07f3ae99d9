-- The marks of bytes.
use Rattle.std.proofs.Common.{◌≡◌, ℕ, zero, suc, ◌<◌, ◌≤◌, ◌+◌, ◌-◌, ◌*◌, ◌/◌, ◌%◌, ◌^◌, Bool, true, false, not, cond, ◌&&◌, eqb, Option, Some, None, append_assoc, List, [], ◌∷◌, ◌++◌, map, length, take, drop, get_or, Fits, w8, w64, refl, sym, ap, ap₂, ◌∙◌, subst, arith}
use Rattle.std.specs.Prelude.{slice_range, MatchOption}
use Rattle.std.specs.List.{list_all, prefix_len, slice_split}
use Rattle.std.proofs.Math.Nat.{pow-succ', mul_assoc, mod-eq_of_lt, div-div-eq-div-mul, zero-div, div-one, pow-le-pow_right}
use Rattle.std.proofs.lemmas.Bool.{agree_below, agree_below_at}
use Rattle.std.proofs.lemmas.List.{length-map, length-drop, length-take-le, drop-drop}
use Rattle.std.proofs.lemmas.List.Sums.{count_by-le-length, prefix_len_passes, prefix_len_stops}
use Rattle.std.proofs.lemmas.Simd.{mask_l-lt, mask_l-mod, trailing_mask_l, leading_from_mask_l}
use lib.Count.{count_trailing_zeros}
use lib.Lanes.{chunk, mask_l, top, Each1}
use Rattle.file_paths.specs.Marks.{ends_name, marks_of}
use Rattle.file_paths.specs.Name.{is_name, is_name_byte, name_of}
use Rattle.file_paths.specs.Path.{is_path, is_slash, path_text}
use Rattle.file_paths.proofs.FirstNames.{front_passes, ends_at_slash}
use Rattle.file_paths.proofs.Paths.{length-text}
use Rattle.file_paths.proofs.Slashes.{take_whole, slash_low}
use Rattle.hdfs_values.proofs.Cuts.{cut_nowhere}
use Rattle.std.proofs.lemmas.Bool.Decides.{nat_tests}
use Rattle.std.proofs.lemmas.List.Splits.{length-slice_split}

-- ---- one load

abbrev pub hit : ℕ → ℕ → ℕ
hit a b = cond (eqb a b) 255 0

each_byte : (f : ℕ → ℕ) (p : ℕ → Bool) → agree_below (λ x. top 7 (f x)) p 256 ≡ true → (v : List ℕ) → Each1 (Fits w8) v → map (top 7) (map f v) ≡ map p v
each_byte f p all [] fits = refl
each_byte f p all (x ∷ xs) fits = ap₂ (λ a b. a ∷ b) (agree_below_at (λ y. top 7 (f y)) p 256 x all fits.0.fits) (each_byte f p all xs fits.1)

-- lanes that are computed one by one have their tops where the test holds
pub masked : (f : ℕ → ℕ) (p : ℕ → Bool) (v z : List ℕ) → length v ≤ 64 → Each1 (Fits w8) v → z ≡ map f v → agree_below (λ x. top 7 (f x)) p 256 ≡ true
    → mask_l (map (top 7) z) % 2 ^ 64 ≡ mask_l (map p v)
masked f p v z short fits e all =
    ap (λ l. mask_l l % 2 ^ 64) (ap (map (top 7)) e ∙ each_byte f p all v fits) ∙ mask_l-mod (map p v) 64 (omega (arith, length-map v p))

-- ---- marks of joined texts, and of what stands behind

doubled : (n m : ℕ) → 2 ^ suc n * m ≡ 2 * (2 ^ n * m)
doubled n m = ap (λ p. p * m) (pow-succ' 2 n) ∙ mul_assoc 2 (2 ^ n) m

half : (b : Bool) (m : ℕ) → (cond b 1 0 + 2 * m) / 2 ≡ m
half true m = omega arith
half false m = omega arith

pub joined_marks : (xs ys : List ℕ) → marks_of (xs ++ ys) ≡ marks_of xs + 2 ^ length xs * marks_of ys
joined_marks [] ys = omega arith
joined_marks (x ∷ xs) ys =
    ap (λ m. cond (ends_name x) 1 0 + 2 * m) (joined_marks xs ys) ∙ omega (arith, doubled (length xs) (marks_of ys))

pub marks_behind : (bytes : List ℕ) (k : ℕ) → marks_of bytes / 2 ^ k ≡ marks_of (drop k bytes)
marks_behind bytes zero = div-one (marks_of bytes)
marks_behind [] (suc k) = zero-div (2 ^ suc k)
marks_behind (byte ∷ bytes) (suc k) =
    ap (λ p. marks_of (byte ∷ bytes) / p) (pow-succ' 2 k) ∙ sym (div-div-eq-div-mul (marks_of (byte ∷ bytes)) 2 (2 ^ k))
    ∙ ap (λ m. m / 2 ^ k) (half (ends_name byte) (marks_of bytes)) ∙ marks_behind bytes k

marks_bound : (bytes : List ℕ) → marks_of bytes < 2 ^ length bytes
marks_bound bytes = subst (λ n. marks_of bytes < 2 ^ n) (length-map bytes ends_name) (mask_l-lt (map ends_name bytes))

pow_few : (n : ℕ) → n ≤ 64 → 2 ^ n ≤ 2 ^ 64
pow_few n few = pow-le-pow_right (omega arith) few

few_fit : (bytes : List ℕ) → length bytes ≤ 64 → marks_of bytes < 2 ^ 64
few_fit bytes few = omega (arith, marks_bound bytes, pow_few (length bytes) few)

take_none : (n : ℕ) → take {A = ℕ} n [] ≡ []
take_none zero = refl
take_none (suc n) = refl

take_more : (bytes : List ℕ) (at n : ℕ) → take (at + n) bytes ≡ take at bytes ++ take n (drop at bytes)
take_more bytes zero n = let e : 0 + n ≡ n = omega arith in ap (λ i. take i bytes) e
take_more [] (suc at) n = take_none (suc at + n) ∙ sym (take_none n)
take_more (byte ∷ bytes) (suc at) n =
    let e : suc at + n ≡ suc (at + n) = omega arith in
    ap (λ i. take i (byte ∷ bytes)) e ∙ ap (λ l. byte ∷ l) (take_more bytes at n)

-- the marks of the next n bytes, shifted behind those that are known
pub more_marks : (bytes : List ℕ) (at n marks more : ℕ) → at + n ≤ length bytes → at + n ≤ 64 → marks ≡ marks_of (take at bytes) → more ≡ marks_of (chunk at n bytes)
    → marks + more * 2 ^ at % 2 ^ 64 ≡ marks_of (take (at + n) bytes)
more_marks bytes at n marks more room few is next =
    let whole : marks_of (take (at + n) bytes) ≡ marks + 2 ^ at * more =
    ap marks_of (take_more bytes at n) ∙ joined_marks (take at bytes) (take n (drop at bytes))
    ∙ ap₂ (λ k m. marks_of (take at bytes) + 2 ^ k * m) (length-take-le at bytes (omega arith)) (sym next) ∙ ap (λ m. m + 2 ^ at * more) (sym is) in
    let low : marks_of (take (at + n) bytes) < 2 ^ 64 = few_fit (take (at + n) bytes) (omega (arith, length-take-le (at + n) bytes room)) in
    let swapped : more * 2 ^ at ≡ 2 ^ at * more = omega arith in
    let fits : more * 2 ^ at < 2 ^ 64 = omega (arith, whole, low, swapped) in
    ap (λ m. marks + m) (mod-eq_of_lt fits ∙ swapped) ∙ sym whole

pub marks_fit : (bytes : List ℕ) (k marks : ℕ) → k ≤ 64 → marks ≡ marks_of (take k bytes) → k ≤ length bytes → Fits w64 marks
marks_fit bytes k marks few is room = record { fits = subst (λ m. m < 2 ^ 64) (sym is) (few_fit (take k bytes) (omega (arith, length-take-le k bytes room))) }

-- of the last load, the bytes that no earlier one had
pub last_load : (bytes : List ℕ) (n last at : ℕ) → last ≤ at → last + n ≡ length bytes → at < length bytes → drop (at - last) (chunk last n bytes) ≡ chunk at (length bytes - at) bytes
last_load bytes n last at le ends lt =
    let back : last + (at - last) ≡ at = omega arith in
    ap (drop (at - last)) (take_whole (drop last bytes) n (omega (arith, length-drop last bytes))) ∙ drop-drop (at - last) last bytes
    ∙ ap (λ i. drop i bytes) back ∙ sym (take_whole (drop at bytes) (length bytes - at) (omega (arith, length-drop at bytes)))

-- ---- the first mark

some_marked : (bytes : List ℕ) → 0 < marks_of bytes → prefix_len (λ x. not (ends_name x)) bytes < length bytes
some_marked [] some = absurd (omega arith)
some_marked (byte ∷ bytes) some = by (ends_name byte) some (λ h. some_marked bytes h)
  where
    by : (b : Bool) → 0 < cond b 1 0 + 2 * marks_of bytes → (0 < marks_of bytes → prefix_len (λ x. not (ends_name x)) bytes < length bytes)
        → cond (not b) (1 + prefix_len (λ x. not (ends_name x)) bytes) 0 < suc (length bytes)
    by true h behind = omega arith
    by false h behind = omega (arith, behind (omega (arith, h)))

passes : (b : Bool) → not (not b) ≡ true → b ≡ true
passes true h = refl
passes false h = cc

stops : (b : Bool) → not (not b) ≡ false → b ≡ false
stops true h = cc
stops false h = refl

module _ (bytes : List ℕ) (marks : ℕ) (is : marks ≡ marks_of bytes) (some : 0 < marks) (few : length bytes ≤ 64) where
  abbrev end : ℕ
  end = count_trailing_zeros 64 marks

  marked : 0 < marks_of bytes
  marked = subst (λ m. 0 < m) is some

  end_is : end ≡ prefix_len (λ x. not (ends_name x)) bytes
  end_is = ap (count_trailing_zeros 64) is ∙ trailing_mask_l ends_name 64 bytes few marked

  pub end_bound : end < length bytes
  end_bound = omega (arith, end_is, some_marked bytes marked)

  pub end_names : (k : ℕ) → k < end → is_name_byte (get_or bytes k 0) ≡ true
  end_names k lt = passes (is_name_byte (get_or bytes k 0)) (prefix_len_passes (λ x. not (ends_name x)) bytes k 0 (omega (arith, lt, end_is)))

  pub end_stops : is_name_byte (get_or bytes end 0) ≡ false
  end_stops =
      stops (is_name_byte (get_or bytes end 0))
      (subst (λ i. not (ends_name (get_or bytes i 0)) ≡ false) (sym end_is) (prefix_len_stops (λ x. not (ends_name x)) bytes 0 (some_marked bytes marked)))

module _ (bytes : List ℕ) (none : marks_of bytes ≡ 0) where
  all_named : (k : ℕ) → k < length bytes → is_name_byte (get_or bytes k 0) ≡ true
  all_named k lt =
      passes (is_name_byte (get_or bytes k 0)) (prefix_len_passes (λ x. not (ends_name x)) bytes k 0 (omega (arith, lt, leading_from_mask_l ends_name bytes none)))

  -- it is one piece
  pub unmarked_pieces : slice_split is_slash bytes ≡ bytes ∷ []
  unmarked_pieces =
      let all : length bytes ≤ length bytes = omega arith in
      cut_nowhere is_slash slash_low bytes (length bytes) (ends_at_slash bytes (length bytes) all all_named (λ lt. absurd (omega (arith, lt)))) refl

  pub unmarked_passes : list_all is_name_byte bytes ≡ true
  unmarked_passes =
      let all : length bytes ≤ length bytes = omega arith in
      ap (list_all is_name_byte) (sym (take_whole bytes (length bytes) all)) ∙ front_passes bytes (length bytes) all all_named

-- ---- one name after another

pub behind_marks : (rest next : List ℕ) (end stops : ℕ) → stops ≡ marks_of rest → next ≡ drop (end + 1) rest → stops / 2 ^ end / 2 ≡ marks_of next
behind_marks rest next end stops is behind =
    ap (λ m. m / 2 ^ end / 2) is ∙ ap (λ m. m / 2) (marks_behind rest end) ∙ marks_behind (drop end rest) 1 ∙ ap marks_of (drop-drop 1 end rest ∙ sym behind)

pub front_is : (rest : List ℕ) (end : ℕ) → slice_range rest 0 end ≡ take end rest
front_is rest end = let e : end - 0 ≡ end = omega arith in ap (λ n. take n rest) e

pub no_name_of : (text : List ℕ) → name_of text ≡ None → is_name text ≡ false
no_name_of text none = by (is_name text) none
  where
    by : (b : Bool) → cond b (Some text) None ≡ None → b ≡ false
    by true h = cc
    by false h = refl

pub name_of_some : (text name : List ℕ) → name_of text ≡ Some name → (is_name text ≡ true) × (name ≡ text)
name_of_some text name some = by (is_name text) some
  where
    by : (b : Bool) → cond b (Some text) None ≡ Some name → (b ≡ true) × (name ≡ text)
    by true h = (refl, cc)
    by false h = cc

pub next_all : (pieces behind : List (List ℕ)) (piece : List ℕ) (b : Bool) → pieces ≡ piece ∷ behind → is_name piece ≡ true → list_all is_name pieces ≡ b → list_all is_name behind ≡ b
next_all pieces behind piece b cut named is = sym (ap (list_all is_name) cut ∙ ap (λ c. c && list_all is_name behind) named) ∙ is

pub next_items : (names more pieces behind whole : List (List ℕ)) (piece name : List ℕ) → more ≡ names ++ name ∷ [] → name ≡ piece → pieces ≡ piece ∷ behind → names ++ pieces ≡ whole → more ++ behind ≡ whole
next_items names more pieces behind whole piece name pushed same cut is =
    ap (λ l. l ++ behind) pushed ∙ append_assoc names (name ∷ []) behind ∙ ap (λ n. names ++ n ∷ behind) same ∙ sym (ap (λ l. names ++ l) cut) ∙ is

-- ---- a path by its length

pub few_path : (text rest : List ℕ) → text ≡ 47 ∷ rest → length rest ≤ 64 → list_all is_name (slice_split is_slash rest) ≡ true → is_path (slice_split is_slash rest) ≡ true
few_path text rest behind few names =
    let long : length (path_text (slice_split is_slash rest)) ≤ 8000 = omega (arith, length-text text rest behind, ap length behind, few) in
    let deep : length (slice_split is_slash rest) ≤ 1000 = omega (arith, length-slice_split is_slash rest, count_by-le-length is_slash rest, few) in
    grind (arith, nat_tests, long, deep, names)

pub some_matched : {X : Type 0} (N : Type 0) (P : X → Type 0) (found : Option X) (x : X) → found ≡ Some x → MatchOption found N P → P x
some_matched N P found x is h = subst (λ o. MatchOption o N P) is h
