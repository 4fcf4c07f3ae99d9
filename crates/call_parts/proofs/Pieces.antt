-- Pieces that stand one behind another: what is put behind them, taken from them, and read of them.
use Rattle.std.proofs.Common.{◌≡◌, ◌≤◌, ◌<◌, ◌+◌, ◌-◌, ◌∙◌, ℕ, zero, suc, List, [], ◌∷◌, ◌++◌, length, take, drop, set, Option, Some, refl, sym, ap, subst, slice_get, get_or, arith}
use Rattle.std.specs.Prelude.{unwrap_or, IfSome}
use Rattle.std.proofs.lemmas.List.{append-nil, append_assoc, length-append, length-take, take-append-drop, take-append-le, take_all, drop_all, drop_more, take_at, set_at}
use Rattle.std.proofs.lemmas.List.Concat.{flat_map-append}
use Rattle.std.proofs.lemmas.Option.{slice_get_read}
use Rattle.call_parts.specs.Chunks.{bytes_of, StandBehind, BeginBefore}
use Rattle.call_parts.specs.declared.chunks.Piece.{Piece}

some_is : {A : Type 0} (x y : A) → Some x ≡ Some y → x ≡ y
some_is {A} x y e = ap (λ (o : Option A). unwrap_or o x) e

-- ---- of any lists

module _ {A : Type 0} where
  pub take_both : (n : ℕ) (xs ys : List A) → take n (xs ++ ys) ≡ take n xs ++ take (n - length xs) ys
  take_both zero xs ys = let e : zero - length xs ≡ zero = omega arith in ap (λ k. take k ys) (sym e)
  take_both (suc n) [] ys = let e : suc n - length {A = A} [] ≡ suc n = omega arith in ap (λ k. take k ys) (sym e)
  take_both (suc n) (x ∷ xs) ys =
      let e : suc n - length (x ∷ xs) ≡ n - length xs = omega arith in
      ap (λ l. x ∷ l) (take_both n xs ys) ∙ ap (λ k. x ∷ (take n xs ++ take k ys)) (sym e)

  pub drop_both : (n : ℕ) (xs ys : List A) → drop n (xs ++ ys) ≡ drop n xs ++ drop (n - length xs) ys
  drop_both zero xs ys = let e : zero - length xs ≡ zero = omega arith in ap (λ k. xs ++ drop k ys) (sym e)
  drop_both (suc n) [] ys = let e : suc n - length {A = A} [] ≡ suc n = omega arith in ap (λ k. drop k ys) (sym e)
  drop_both (suc n) (x ∷ xs) ys =
      let e : suc n - length (x ∷ xs) ≡ n - length xs = omega arith in
      drop_both n xs ys ∙ ap (λ k. drop n xs ++ drop k ys) (sym e)

  -- what is behind more than the first ones
  pub drop_past : (n : ℕ) (xs ys : List A) → length xs ≤ n → drop n (xs ++ ys) ≡ drop (n - length xs) ys
  drop_past n xs ys long = drop_both n xs ys ∙ ap (λ l. l ++ drop (n - length xs) ys) (drop_all n xs long)

  -- a part of two lists is a part of the one and then of the other
  pub part_of_both : (skipped count : ℕ) (xs ys : List A)
      → take count (drop skipped (xs ++ ys)) ≡ take count (drop skipped xs) ++ take (count - length (take count (drop skipped xs))) (drop (skipped - length xs) ys)
  part_of_both skipped count xs ys =
      ap (take count) (drop_both skipped xs ys) ∙ (take_both count front rest ∙ ap (λ k. take count front ++ take k rest) left)
    where
      front : List A
      front = drop skipped xs

      rest : List A
      rest = drop (skipped - length xs) ys

      left : count - length front ≡ count - length (take count front)
      left = omega (arith, length-take count front)

  -- what stands at the front stays there
  pub front_stays : (xs ys zs : List A) → take (length xs) ys ≡ xs → take (length xs) (ys ++ zs) ≡ xs
  front_stays xs ys zs is = take-append-le (length xs) ys zs long ∙ is
    where
      long : length xs ≤ length ys
      long = omega (arith, ap length is, length-take (length xs) ys)

-- ---- of pieces

pub bytes_of_both : (xs ys : List Piece) → bytes_of (xs ++ ys) ≡ bytes_of xs ++ bytes_of ys
bytes_of_both xs ys = flat_map-append (λ (piece : Piece). piece.bytes) xs ys

pub bytes_of_more : (xs : List Piece) (piece : Piece) → bytes_of (xs ++ piece ∷ []) ≡ bytes_of xs ++ piece.bytes
bytes_of_more xs piece = bytes_of_both xs (piece ∷ []) ∙ ap (λ l. bytes_of xs ++ l) (append-nil piece.bytes)

module _ (pieces : List Piece) (i : ℕ) (piece : Piece) (within : i < length pieces) (at : piece ≡ get_or pieces i piece) where
  left : drop i pieces ≡ piece ∷ drop (i + 1) pieces
  left = drop_more pieces i piece within ∙ ap (λ (p : Piece). p ∷ drop (i + 1) pieces) (sym at)

  -- a piece of those that are left is put behind others
  pub pieces_more : (chunks all : List ℕ) → chunks ++ bytes_of (drop i pieces) ≡ all → (chunks ++ piece.bytes) ++ bytes_of (drop (i + 1) pieces) ≡ all
  pieces_more chunks all before = append_assoc chunks piece.bytes (bytes_of (drop (i + 1) pieces)) ∙ (ap (λ ps. chunks ++ bytes_of ps) (sym left) ∙ before)

  -- a part of it is
  pub part_more : (skipped count : ℕ) (chunks all part : List ℕ) → part ≡ take count (drop skipped piece.bytes) → chunks ++ take count (drop skipped (bytes_of (drop i pieces))) ≡ all
      → (chunks ++ part) ++ take (count - length part) (drop (skipped - length piece.bytes) (bytes_of (drop (i + 1) pieces))) ≡ all
  part_more skipped count chunks all part is before =
      append_assoc chunks part (take (count - length part) (drop (skipped - length piece.bytes) (bytes_of (drop (i + 1) pieces)))) ∙ (ap (λ l. chunks ++ l) (sym split) ∙ before)
    where
      split : take count (drop skipped (bytes_of (drop i pieces))) ≡ part ++ take (count - length part) (drop (skipped - length piece.bytes) (bytes_of (drop (i + 1) pieces)))
      split = ap (λ ps. take count (drop skipped (bytes_of ps))) left
          ∙ (part_of_both skipped count piece.bytes (bytes_of (drop (i + 1) pieces))
          ∙ ap (λ (l : List ℕ). l ++ take (count - length l) (drop (skipped - length piece.bytes) (bytes_of (drop (i + 1) pieces)))) (sym is))

-- one more behind them
pub stand_more : (start : ℕ) (xs : List Piece) (piece : Piece) → StandBehind start xs → piece.start ≡ start + length (bytes_of xs) → 0 < length piece.bytes
    → StandBehind start (xs ++ piece ∷ [])
stand_more start [] piece stand is some = (is ∙ omega arith, some, tt)
stand_more start (x ∷ xs) piece stand is some = (stand.0, stand.1, stand_more (start + length x.bytes) xs piece stand.2 (is ∙ omega (arith, length-append x.bytes (bytes_of xs))) some)

pub stand_take : (start k : ℕ) (xs : List Piece) → StandBehind start xs → StandBehind start (take k xs)
stand_take start zero xs stand = tt
stand_take start (suc k) [] stand = tt
stand_take start (suc k) (x ∷ xs) stand = (stand.0, stand.1, stand_take (start + length x.bytes) k xs stand.2)

pub stand_drop : (start k : ℕ) (xs : List Piece) → StandBehind start xs → StandBehind (start + length (bytes_of (take k xs))) (drop k xs)
stand_drop start zero xs stand = subst (λ n. StandBehind n xs) (omega arith) stand
stand_drop start (suc k) [] stand = tt
stand_drop start (suc k) (x ∷ xs) stand = subst (λ n. StandBehind n (drop k xs)) (omega (arith, length-append x.bytes (bytes_of (take k xs)))) (stand_drop (start + length x.bytes) k xs stand.2)

first_start : (start : ℕ) (xs : List Piece) (piece : Piece) → StandBehind start xs → slice_get xs 0 ≡ Some piece → piece.start ≡ start
first_start start [] piece stand is = cc
first_start start (x ∷ xs) piece stand is = ap (λ (p : Piece). p.start) (sym (some_is x piece is)) ∙ stand.0

-- where the first of the last ones begins, they do
pub behind_is : (k offset : ℕ) (xs : List Piece) (piece : Piece) → StandBehind 0 xs → slice_get (drop k xs) 0 ≡ Some piece → piece.start ≤ offset
    → drop offset (bytes_of xs) ≡ drop (offset - piece.start) (bytes_of (drop k xs))
behind_is k offset xs piece stand is before =
    ap (λ l. drop offset (bytes_of l)) (sym (take-append-drop k xs)) ∙ (ap (drop offset) (bytes_of_both (take k xs) (drop k xs))
    ∙ (drop_past offset (bytes_of (take k xs)) (bytes_of (drop k xs)) (omega (arith, begins, before)) ∙ ap (λ n. drop n (bytes_of (drop k xs))) (omega (arith, begins))))
  where
    begins : piece.start ≡ 0 + length (bytes_of (take k xs))
    begins = first_start (0 + length (bytes_of (take k xs))) (drop k xs) piece (stand_drop 0 k xs stand) is

-- ---- of the last piece

pub split_last : (xs : List Piece) (piece : Piece) → slice_get xs (length xs - 1) ≡ Some piece → xs ≡ take (length xs - 1) xs ++ piece ∷ []
split_last [] piece is = cc
split_last (x ∷ []) piece is = ap (λ (p : Piece). p ∷ []) (some_is x piece is)
split_last (x ∷ y ∷ xs) piece is =
    let here : suc (length (y ∷ xs) - 1) ≡ length (x ∷ y ∷ xs) - 1 = omega arith in
    let rest : y ∷ xs ≡ take (length (y ∷ xs) - 1) (y ∷ xs) ++ piece ∷ [] = split_last (y ∷ xs) piece (ap (slice_get (x ∷ y ∷ xs)) here ∙ is) in
    ap (λ l. x ∷ l) rest ∙ ap (λ n. take n (x ∷ y ∷ xs) ++ piece ∷ []) here

pub last_start : (start : ℕ) (xs : List Piece) (piece : Piece) → StandBehind start (xs ++ piece ∷ []) → piece.start ≡ start + length (bytes_of xs)
last_start start [] piece stand = stand.0 ∙ omega arith
last_start start (x ∷ xs) piece stand = last_start (start + length x.bytes) xs piece stand.2 ∙ omega (arith, length-append x.bytes (bytes_of xs))

-- one that begins behind so many bytes has none of them
pub without_last : (limit : ℕ) (xs : List Piece) (piece : Piece) → StandBehind 0 (xs ++ piece ∷ []) → limit ≤ piece.start
    → take limit (bytes_of xs) ≡ take limit (bytes_of (xs ++ piece ∷ []))
without_last limit xs piece stand behind =
    sym (ap (take limit) (bytes_of_more xs piece) ∙ take-append-le limit (bytes_of xs) piece.bytes (omega (arith, last_start 0 xs piece stand, behind)))

-- without the last one, where it begins behind so many bytes
pub behind_last : (limit : ℕ) (pieces : List Piece) (last : Piece) → StandBehind 0 pieces → slice_get pieces (length pieces - 1) ≡ Some last → limit ≤ last.start
    → take limit (bytes_of (take (length pieces - 1) pieces)) ≡ take limit (bytes_of pieces)
behind_last limit pieces last stand is behind =
    without_last limit (take (length pieces - 1) pieces) last (subst (StandBehind 0) (split_last pieces last is) stand) behind ∙ ap (λ ps. take limit (bytes_of ps)) (sym (split_last pieces last is))

pub popped : (limit : ℕ) (old shown new all : List Piece) (n : ℕ) → StandBehind 0 old → shown ≡ old → n ≡ length old → new ≡ take (n - 1) old
    → take limit (bytes_of (take (length shown - 1) shown)) ≡ take limit (bytes_of shown) → take limit (bytes_of old) ≡ take limit (bytes_of all)
    → StandBehind 0 new × (take limit (bytes_of new) ≡ take limit (bytes_of all))
popped limit old shown new all n stand seen size is behind before =
    let taken : new ≡ take (length old - 1) old = is ∙ ap (λ k. take (k - 1) old) size in (
      subst (StandBehind 0) (sym taken) (stand_take 0 (length old - 1) old stand),
      ap (λ ps. take limit (bytes_of ps)) taken ∙ (subst (λ ps. take limit (bytes_of (take (length ps - 1) ps)) ≡ take limit (bytes_of ps)) seen behind ∙ before),
    )

-- with the last one cut
module _ (limit : ℕ) (xs : List Piece) (piece : Piece) (stand : StandBehind 0 (xs ++ piece ∷ [])) (before : piece.start < limit) where
  abbrev pub cut : Piece
  cut = record piece { bytes = take (limit - piece.start) piece.bytes }

  begins : piece.start ≡ 0 + length (bytes_of xs)
  begins = last_start 0 xs piece stand

  pub cut_bytes : bytes_of (xs ++ cut ∷ []) ≡ take limit (bytes_of (xs ++ piece ∷ []))
  cut_bytes =
      bytes_of_more xs cut ∙ sym (ap (take limit) (bytes_of_more xs piece) ∙ (take_both limit (bytes_of xs) piece.bytes
      ∙ (ap (λ l. l ++ take (limit - length (bytes_of xs)) piece.bytes) (take_all limit (bytes_of xs) (omega (arith, begins, before)))
      ∙ ap (λ n. bytes_of xs ++ take n piece.bytes) (omega (arith, begins)))))

  last_some : 0 < length piece.bytes
  last_some = some 0 xs stand
    where
      some : (start : ℕ) (ys : List Piece) → StandBehind start (ys ++ piece ∷ []) → 0 < length piece.bytes
      some start [] stand = stand.1
      some start (y ∷ ys) stand = some (start + length y.bytes) ys stand.2

  front_stands : StandBehind 0 xs
  front_stands = subst (StandBehind 0) (take_at xs (piece ∷ []) (length xs) refl) (stand_take 0 (length xs) (xs ++ piece ∷ []) stand)

  pub cut_stands : StandBehind 0 (xs ++ cut ∷ [])
  cut_stands = stand_more 0 xs cut front_stands begins (omega (arith, length-take (limit - piece.start) piece.bytes, last_some, before))

module _ (limit : ℕ) (pieces : List Piece) (piece : Piece) (bytes : List ℕ) (stand : StandBehind 0 pieces) (some : 0 < length pieces) (at : piece ≡ get_or pieces (length pieces - 1) piece)
    (all_before : BeginBefore limit pieces) (cut_to : bytes ≡ take (limit - piece.start) piece.bytes) where
  is : slice_get pieces (length pieces - 1) ≡ Some piece
  is = slice_get_read pieces (length pieces) (length pieces - 1) piece refl (omega (arith, some)) at

  before : piece.start < limit
  before = subst (λ (found : Option Piece). IfSome found (λ last. last.start < limit)) is all_before

  abbrev front : List Piece
  front = take (length pieces - 1) pieces

  split : pieces ≡ front ++ piece ∷ []
  split = split_last pieces piece is

  stands : StandBehind 0 (front ++ piece ∷ [])
  stands = subst (StandBehind 0) split stand

  put : set pieces (length pieces - 1) (record { start = piece.start; bytes = bytes }) ≡ front ++ cut limit front piece stands before ∷ []
  put =
      let size : length front ≡ length pieces - 1 = omega (arith, length-take (length pieces - 1) pieces) in
      ap (λ ps. set ps (length pieces - 1) (record { start = piece.start; bytes = bytes })) split
      ∙ (set_at front piece [] (record { start = piece.start; bytes = bytes }) (length pieces - 1) size
      ∙ ap (λ (own : List ℕ). front ++ (record { start = piece.start; bytes = own }) ∷ []) cut_to)

  pub last_cut : bytes_of (set pieces (length pieces - 1) (record { start = piece.start; bytes = bytes })) ≡ take limit (bytes_of pieces)
  last_cut = ap bytes_of put ∙ (cut_bytes limit front piece stands before ∙ ap (λ ps. take limit (bytes_of ps)) (sym split))

  pub last_stands : StandBehind 0 (set pieces (length pieces - 1) (record { start = piece.start; bytes = bytes }))
  last_stands = subst (StandBehind 0) (sym put) (cut_stands limit front piece stands before)
