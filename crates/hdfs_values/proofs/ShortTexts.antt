-- The order of texts that stand before zeros is that of all the bytes, and then that of the lengths; and the order of lists of bytes
-- is that of the words of eight of their bytes, the first byte highest.
use Rattle.std.proofs.Common.{◌≡◌, ◌≢◌, false, ℕ, zero, suc, ◌+◌, ◌-◌, ◌*◌, ◌<◌, ◌≤◌, List, [], ◌∷◌, ◌++◌, length, take, drop, replicate, refl, sym, ap, subst, ◌∙◌, arith, Fits, w8}
use Rattle.std.proofs.Math.ListN.{get_or, drop_of_length-le}
use Rattle.std.proofs.lemmas.List.{length-append, length-replicate, length-take-le, take-append-drop, length-drop, get_or-drop, drop-drop}
use Rattle.std.specs.Cmp.{ranks, nat_cmp_is}
use Rattle.std.specs.Cmp.Lexicographic.{slice_cmp}
use Rattle.std.specs.Ordering.{is_eq, nat_cmp, ordering_then, ordering_index, MatchOrdering}
use Rattle.std.specs.Slice.Scan.{big_endian}
use Rattle.std.specs.declared.cmp.Ordering.{Ordering}
use Rattle.std.specs.declared.cmp.Ordering.TheVariants.{Less, Equal, Greater}

-- ---- `ordering_then`
assoc : (a b c : Ordering) → ordering_then a (ordering_then b c) ≡ ordering_then (ordering_then a b) c
assoc Less b c = refl
assoc Equal b c = refl
assoc Greater b c = refl

both_equal : (a b : Ordering) → ordering_then a b ≡ Equal → (a ≡ Equal) × (b ≡ Equal)
both_equal Less b h = let e = ap ordering_index h in absurd (omega arith)
both_equal Equal b h = (refl, h)
both_equal Greater b h = let e = ap ordering_index h in absurd (omega arith)

-- numbers that differ decide
pub apart_then : (x y : ℕ) (o : Ordering) → (x ≢ y) → ordering_then (nat_cmp x y) o ≡ nat_cmp x y
apart_then x y o apart = by (nat_cmp x y) (ranks x y)
  where
    by : (r : Ordering) → MatchOrdering r (x < y) (x ≡ y) (y < x) → ordering_then r o ≡ r
    by Less l = refl
    by Equal l = absurd (apart l)
    by Greater l = refl

-- and then they aren't one
pub unlike : (x y : ℕ) → (x ≢ y) → is_eq (nat_cmp x y) ≡ false
unlike x y apart = by (nat_cmp x y) (ranks x y)
  where
    by : (r : Ordering) → MatchOrdering r (x < y) (x ≡ y) (y < x) → is_eq r ≡ false
    by Less l = refl
    by Equal l = absurd (apart l)
    by Greater l = refl

level : (x y : ℕ) → x ≡ y → nat_cmp x y ≡ Equal
level x y e = sym (nat_cmp_is x y Equal e)

next_cmp : (a b : ℕ) → nat_cmp (suc a) (suc b) ≡ nat_cmp a b
next_cmp a b = sym (nat_cmp_is (suc a) (suc b) _ (by (nat_cmp a b) (ranks a b)))
  where
    by : (r : Ordering) → MatchOrdering r (a < b) (a ≡ b) (b < a) → MatchOrdering r (suc a < suc b) (suc a ≡ suc b) (suc b < suc a)
    by Less l = let q : a < b = l in omega arith
    by Equal l = ap suc l
    by Greater l = let q : b < a = l in omega arith

-- ---- texts before zeros
zeros_alike : (i j : ℕ) → i ≡ j → slice_cmp nat_cmp (replicate i 0) (replicate j 0) ≡ Equal
zeros_alike zero zero e = refl
zeros_alike zero (suc j) e = absurd (omega arith)
zeros_alike (suc i) zero e = absurd (omega arith)
zeros_alike (suc i) (suc j) e = zeros_alike i j (omega arith)

zeros_before : (i : ℕ) (ys : List ℕ) → length ys ≡ i → ordering_then (slice_cmp nat_cmp (replicate i 0) ys) Less ≡ Less
zeros_before zero [] e = refl
zeros_before zero (y ∷ ys) e = absurd (omega arith)
zeros_before (suc i) [] e = absurd (omega arith)
zeros_before (suc i) (y ∷ ys) e = by (zeros_before i ys (omega arith)) (nat_cmp 0 y) (ranks 0 y)
  where
    by : ordering_then (slice_cmp nat_cmp (replicate i 0) ys) Less ≡ Less → (r : Ordering) → MatchOrdering r (0 < y) (0 ≡ y) (y < 0) → ordering_then (ordering_then r (slice_cmp nat_cmp (replicate i 0) ys)) Less ≡ Less
    by rest Less l = refl
    by rest Equal l = rest
    by rest Greater l = let q : y < 0 = l in absurd (omega arith)

zeros_behind : (i : ℕ) (xs : List ℕ) → length xs ≡ i → ordering_then (slice_cmp nat_cmp xs (replicate i 0)) Greater ≡ Greater
zeros_behind zero [] e = refl
zeros_behind zero (x ∷ xs) e = absurd (omega arith)
zeros_behind (suc i) [] e = absurd (omega arith)
zeros_behind (suc i) (x ∷ xs) e = by (zeros_behind i xs (omega arith)) (nat_cmp x 0) (ranks x 0)
  where
    by : ordering_then (slice_cmp nat_cmp xs (replicate i 0)) Greater ≡ Greater → (r : Ordering) → MatchOrdering r (x < 0) (x ≡ 0) (0 < x) → ordering_then (ordering_then r (slice_cmp nat_cmp xs (replicate i 0))) Greater ≡ Greater
    by rest Less l = let q : x < 0 = l in absurd (omega arith)
    by rest Equal l = rest
    by rest Greater l = refl

filled : (a b : List ℕ) (i j : ℕ) → length a + i ≡ length b + j
    → ordering_then (slice_cmp nat_cmp (a ++ replicate i 0) (b ++ replicate j 0)) (nat_cmp (length a) (length b)) ≡ slice_cmp nat_cmp a b
filled [] [] i j e = ap (λ o. ordering_then o Equal) (zeros_alike i j (omega arith))
filled [] (y ∷ b) i j e =
    let less : nat_cmp 0 (suc (length b)) ≡ Less = sym (nat_cmp_is 0 (suc (length b)) Less (omega arith)) in
    ap (ordering_then (slice_cmp nat_cmp (replicate i 0) (y ∷ b ++ replicate j 0))) less
    ∙ zeros_before i (y ∷ b ++ replicate j 0) (omega (arith, length-append b (replicate j 0), length-replicate {A = ℕ} j 0))
filled (x ∷ a) [] i j e =
    let more : nat_cmp (suc (length a)) 0 ≡ Greater = sym (nat_cmp_is (suc (length a)) 0 Greater (omega arith)) in
    ap (ordering_then (slice_cmp nat_cmp (x ∷ a ++ replicate i 0) (replicate j 0))) more
    ∙ zeros_behind j (x ∷ a ++ replicate i 0) (omega (arith, length-append a (replicate i 0), length-replicate {A = ℕ} i 0))
filled (x ∷ a) (y ∷ b) i j e =
    let rest = slice_cmp nat_cmp (a ++ replicate i 0) (b ++ replicate j 0) in
    ap (ordering_then (ordering_then (nat_cmp x y) rest)) (next_cmp (length a) (length b))
    ∙ sym (assoc (nat_cmp x y) rest (nat_cmp (length a) (length b)))
    ∙ ap (ordering_then (nat_cmp x y)) (filled a b i j (omega arith))

-- ---- words
split : (n : ℕ) (xs ys : List ℕ) → n ≤ length xs → n ≤ length ys
    → slice_cmp nat_cmp xs ys ≡ ordering_then (slice_cmp nat_cmp (take n xs) (take n ys)) (slice_cmp nat_cmp (drop n xs) (drop n ys))
split zero xs ys p q = refl
split (suc n) [] ys p q = absurd (omega arith)
split (suc n) (x ∷ xs) [] p q = absurd (omega arith)
split (suc n) (x ∷ xs) (y ∷ ys) p q = ap (ordering_then (nat_cmp x y)) (split n xs ys (omega arith) (omega arith)) ∙ assoc (nat_cmp x y) _ _

-- where the first n bytes are alike, the bytes from any of them on decide
pub behind : (k n : ℕ) (xs ys : List ℕ) → k ≤ n → n ≤ length xs → n ≤ length ys → slice_cmp nat_cmp (take n xs) (take n ys) ≡ Equal
    → slice_cmp nat_cmp (drop k xs) (drop k ys) ≡ slice_cmp nat_cmp xs ys
behind zero n xs ys l p q e = refl
behind (suc k) zero xs ys l p q e = absurd (omega arith)
behind (suc k) (suc n) [] ys l p q e = absurd (omega arith)
behind (suc k) (suc n) (x ∷ xs) [] l p q e = absurd (omega arith)
behind (suc k) (suc n) (x ∷ xs) (y ∷ ys) l p q e =
    let both = both_equal (nat_cmp x y) _ e in
    behind k n xs ys (omega arith) (omega arith) (omega arith) both.1 ∙ sym (ap (λ o. ordering_then o (slice_cmp nat_cmp xs ys)) both.0)

abbrev pub Bytes : List ℕ → Type 0
Bytes xs = (k : ℕ) → Fits w8 (get_or xs k 0)

rises : (n a b : ℕ) (us vs : List ℕ) → n ≤ length us → n ≤ length vs → Bytes us → a < b → big_endian a (take n us) < big_endian b (take n vs)
rises zero a b us vs p q h l = l
rises (suc n) a b [] vs p q h l = absurd (omega arith)
rises (suc n) a b (u ∷ us) [] p q h l = absurd (omega arith)
rises (suc n) a b (u ∷ us) (v ∷ vs) p q h l =
    let small : u < 256 = (h 0).fits in
    rises n (a * 256 + u) (b * 256 + v) us vs (omega arith) (omega arith) (λ k. h (suc k)) (omega arith)

-- how the first n bytes lie, and how the numbers do that they spell after the same number
lie : (n a : ℕ) (us vs : List ℕ) → n ≤ length us → n ≤ length vs → Bytes us → Bytes vs
    → MatchOrdering (slice_cmp nat_cmp (take n us) (take n vs))
    (big_endian a (take n us) < big_endian a (take n vs)) (big_endian a (take n us) ≡ big_endian a (take n vs)) (big_endian a (take n vs) < big_endian a (take n us))
lie zero a us vs p q g h = refl
lie (suc n) a [] vs p q g h = absurd (omega arith)
lie (suc n) a (u ∷ us) [] p q g h = absurd (omega arith)
lie (suc n) a (u ∷ us) (v ∷ vs) p q g h = by (lie n (a * 256 + u) us vs (omega arith) (omega arith) (λ k. g (suc k)) (λ k. h (suc k))) (nat_cmp u v) (ranks u v)
  where
    rest : Ordering
    rest = slice_cmp nat_cmp (take n us) (take n vs)

    x : ℕ
    x = big_endian (a * 256 + u) (take n us)

    y : ℕ → ℕ
    y z = big_endian (a * 256 + z) (take n vs)

    by : MatchOrdering rest (x < y u) (x ≡ y u) (y u < x) → (r : Ordering) → MatchOrdering r (u < v) (u ≡ v) (v < u) → MatchOrdering (ordering_then r rest) (x < y v) (x ≡ y v) (y v < x)
    by same Less l = let under : u < v = l in rises n (a * 256 + u) (a * 256 + v) us vs (omega arith) (omega arith) (λ k. g (suc k)) (omega arith)
    by same Equal l = subst (λ z. MatchOrdering rest (x < y z) (x ≡ y z) (y z < x)) l same
    by same Greater l = let over : v < u = l in rises n (a * 256 + v) (a * 256 + u) vs us (omega arith) (omega arith) (λ k. h (suc k)) (omega arith)

module _ (n x y : ℕ) (us vs : List ℕ) (p : n ≤ length us) (q : n ≤ length vs) (g : Bytes us) (h : Bytes vs) (a : x ≡ big_endian 0 (take n us)) (b : y ≡ big_endian 0 (take n vs)) where
  -- the first n bytes compare as the numbers that they spell
  pub spelt : nat_cmp x y ≡ slice_cmp nat_cmp (take n us) (take n vs)
  spelt = (λ i. nat_cmp (a i) (b i)) ∙ sym (nat_cmp_is _ _ _ (lie n 0 us vs p q g h))

  -- and where the numbers differ, so do all the bytes
  pub spelt_apart : (x ≢ y) → nat_cmp x y ≡ slice_cmp nat_cmp us vs
  spelt_apart apart =
      let rest = slice_cmp nat_cmp (drop n us) (drop n vs) in
      sym (apart_then x y rest apart) ∙ ap (λ o. ordering_then o rest) spelt ∙ sym (split n us vs p q)

  pub spelt_alike : x ≡ y → slice_cmp nat_cmp (take n us) (take n vs) ≡ Equal
  spelt_alike e = sym spelt ∙ level x y e

later : (i : ℕ) (xs : List ℕ) → Bytes xs → Bytes (drop i xs)
later i xs g = λ k. subst (Fits w8) (sym (get_or-drop i xs k 0)) (g (i + k))

-- two lists of 14 bytes, by their words of eight, four and two bytes
module _ (xs ys : List ℕ) (p : length xs ≡ 14) (q : length ys ≡ 14) (g : Bytes xs) (h : Bytes ys) where
  abbrev IsAt : ℕ → ℕ → ℕ → ℕ → Type 0
  IsAt i n x y = (x ≡ big_endian 0 (take n (drop i xs))) × (y ≡ big_endian 0 (take n (drop i ys)))

  -- words that differ decide how the bytes from there on compare
  pub differ_at : (i n x y : ℕ) → i + n ≤ 14 → IsAt i n x y → (x ≢ y) → nat_cmp x y ≡ slice_cmp nat_cmp (drop i xs) (drop i ys)
  differ_at i n x y l at = spelt_apart n x y (drop i xs) (drop i ys) (omega (arith, length-drop i xs)) (omega (arith, length-drop i ys)) (later i xs g) (later i ys h) at.0 at.1

  -- behind words that are alike those decide that follow
  pub past_at : (i n x y : ℕ) → i + n ≤ 14 → IsAt i n x y → x ≡ y → slice_cmp nat_cmp (drop (i + n) xs) (drop (i + n) ys) ≡ slice_cmp nat_cmp (drop i xs) (drop i ys)
  past_at i n x y l at e =
      let alike = spelt_alike n x y (drop i xs) (drop i ys) (omega (arith, length-drop i xs)) (omega (arith, length-drop i ys)) (later i xs g) (later i ys h) at.0 at.1 e in
      (λ t. slice_cmp nat_cmp (sym (drop-drop n i xs) t) (sym (drop-drop n i ys) t))
      ∙ behind n n (drop i xs) (drop i ys) (omega arith) (omega (arith, length-drop i xs)) (omega (arith, length-drop i ys)) alike

  -- behind all bytes nothing is left to decide
  pub past_all : slice_cmp nat_cmp (drop 14 xs) (drop 14 ys) ≡ Equal
  past_all =
      let own : drop 14 xs ≡ [] = drop_of_length-le xs {i = 14} (omega arith) in
      let others : drop 14 ys ≡ [] = drop_of_length-le ys {i = 14} (omega arith) in
      λ t. slice_cmp nat_cmp (own t) (others t)

-- texts of n and m bytes before zeros, as they stand
pub held_order : (n m : ℕ) (xs ys : List ℕ) → length xs ≡ 14 → length ys ≡ 14 → n ≤ 14 → m ≤ 14
    → drop n xs ≡ replicate (14 - n) 0 → drop m ys ≡ replicate (14 - m) 0
    → ordering_then (slice_cmp nat_cmp xs ys) (nat_cmp n m) ≡ slice_cmp nat_cmp (take n xs) (take m ys)
held_order n m xs ys p q k l f g =
    let a = take n xs in
    let b = take m ys in
    let i : length a ≡ n = length-take-le n xs (omega arith) in
    let j : length b ≡ m = length-take-le m ys (omega arith) in
    let us : a ++ replicate (14 - n) 0 ≡ xs = ap (λ z. a ++ z) (sym f) ∙ take-append-drop n xs in
    let vs : b ++ replicate (14 - m) 0 ≡ ys = ap (λ z. b ++ z) (sym g) ∙ take-append-drop m ys in
    (λ t. ordering_then (slice_cmp nat_cmp (sym us t) (sym vs t)) (nat_cmp (sym i t) (sym j t))) ∙ filled a b (14 - n) (14 - m) (omega arith)
