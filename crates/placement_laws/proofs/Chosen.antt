-- Targets: who is ahead of whom, and how many are chosen.
use Rattle.std.proofs.Common.{◌≡◌, ℕ, zero, suc, ◌+◌, ◌<◌, ◌≤◌, ◌==◌, Bool, true, false, ◌&&◌, ◌||◌, not, nat_lt, List, [], ◌∷◌, refl, sym, ap, ◌∙◌, arith}
use Rattle.std.specs.List.{count_by}
use Rattle.std.proofs.lemmas.Bool.{eqb-true, eq-eqb}
use Rattle.std.proofs.lemmas.List.Sums.{length-filter}
use Rattle.std.proofs.lemmas.Bool.Decides.{nat_tests}
use Rattle.block_placement.specs.Placement.{is_ahead, rank, targets}
use Rattle.block_placement.proofs.Few.{all_targets}
use Rattle.placement_laws.specs.Laws.{AllAreChosenOfFew, NoMoreAreChosenThanAsked, TargetsAreAmongTheNodes, TheLeastLoadedAreChosen, are_distinct, is_one_of}
use Rattle.placement_laws.proofs.Ahead.{counted, counts_fewer, in_filter, of_filter, or_there}

module _ (load : ℕ → ℕ) where
  -- who has fewer is ahead
  fewer_ahead : (a b : ℕ) → nat_lt (load a) (load b) ≡ true → is_ahead load a b ≡ true
  fewer_ahead a b h = ap (λ c. c || ((load a == load b) && nat_lt a b)) h

  ahead_through : (a b c : ℕ) → is_ahead load a b ≡ true → is_ahead load b c ≡ true → is_ahead load a c ≡ true
  ahead_through a b c h k = grind (arith, nat_tests)

  not_itself : (a : ℕ) → is_ahead load a a ≡ false
  not_itself a = grind (arith, nat_tests)

  one_way : (a b : ℕ) → (a == b) ≡ false → is_ahead load a b ≡ false → is_ahead load b a ≡ true
  one_way a b h k = grind (arith, nat_tests)

  -- who is ahead has fewer ahead of him
  ranked : (a b : ℕ) (nodes : List ℕ) → is_one_of a nodes ≡ true → is_ahead load a b ≡ true → rank load nodes a < rank load nodes b
  ranked a b nodes here h = counts_fewer (λ other. is_ahead load other a) (λ other. is_ahead load other b) a (λ x k. ahead_through x a b k h) (not_itself a) h nodes here

  -- how many have a rank
  abbrev has_rank : ℕ → List ℕ → ℕ → Bool
  has_rank at nodes node = rank load nodes node == at

pub among : TargetsAreAmongTheNodes
among load count nodes node h = (of_filter (λ own. nat_lt (rank load nodes own) count) node nodes h).1

pub least : TheLeastLoadedAreChosen
least load count nodes chosen other h here out = by (nat_lt (load other) (load chosen)) refl
  where
    by : (b : Bool) → nat_lt (load other) (load chosen) ≡ b → b ≡ false
    by false k = refl
    by true k =
        let low : nat_lt (rank load nodes chosen) count ≡ true = (of_filter (λ own. nat_lt (rank load nodes own) count) chosen nodes h).0 in
        let lower : rank load nodes other < rank load nodes chosen = ranked load other chosen nodes here (fewer_ahead load other chosen k) in
        let in_too : nat_lt (rank load nodes other) count ≡ true = grind (arith, nat_tests) in
        let clash : is_one_of other (targets load count nodes) ≡ true = in_filter (λ own. nat_lt (rank load nodes own) count) other nodes in_too here in
        cc

pub all_of_few : AllAreChosenOfFew
all_of_few load count nodes few = sym (all_targets load count nodes few)

-- ---- how many are chosen

neither : (a b : Bool) → (a || b) ≡ false → (a ≡ false) × (b ≡ false)
neither true b h = cc
neither false b h = (refl, h)

differ : (load : ℕ → ℕ) (nodes : List ℕ) (x y : ℕ) → is_one_of x nodes ≡ true → is_one_of y nodes ≡ true → (y == x) ≡ false → (rank load nodes y == rank load nodes x) ≡ false
differ load nodes x y h k apart = by (is_ahead load y x) refl
  where
    by : (b : Bool) → is_ahead load y x ≡ b → (rank load nodes y == rank load nodes x) ≡ false
    by true first = let lower : rank load nodes y < rank load nodes x = ranked load y x nodes k first in grind (arith, nat_tests)
    by false first = let higher : rank load nodes x < rank load nodes y = ranked load x y nodes h (one_way load y x apart first) in grind (arith, nat_tests)

-- the ranks of others are others
no_other : (load : ℕ → ℕ) (nodes : List ℕ) (x at : ℕ) (some : List ℕ) → is_one_of x nodes ≡ true → rank load nodes x ≡ at → is_one_of x some ≡ false → ((y : ℕ) → is_one_of y some ≡ true → is_one_of y nodes ≡ true)
    → count_by (has_rank load at nodes) some ≡ 0
no_other load nodes x at [] h is apart inside = refl
no_other load nodes x at (y ∷ ys) h is apart inside =
    let parts = neither (y == x) (is_one_of x ys) apart in
    let here : is_one_of y nodes ≡ true = inside y (ap (λ b. b || is_one_of y ys) (eq-eqb y y refl)) in
    let other : has_rank load at nodes y ≡ false = ap (λ k. rank load nodes y == k) (sym is) ∙ differ load nodes x y h here parts.0 in
    omega (arith, counted (has_rank load at nodes) y ys false other, no_other load nodes x at ys h is parts.1 (λ z k. inside z (or_there (y == z) (is_one_of z ys) k)))

not_true : (b : Bool) → not b ≡ true → b ≡ false
not_true true h = cc
not_true false h = refl

both_true : (a b : Bool) → (a && b) ≡ true → (a ≡ true) × (b ≡ true)
both_true true b h = (refl, h)
both_true false b h = cc

-- of nodes that are named once each one at most has a rank
one_with : (load : ℕ → ℕ) (at : ℕ) (nodes some : List ℕ) → are_distinct some ≡ true → ((y : ℕ) → is_one_of y some ≡ true → is_one_of y nodes ≡ true) → count_by (has_rank load at nodes) some ≤ 1
one_with load at nodes [] h inside = omega arith
one_with load at nodes (x ∷ xs) h inside = by (has_rank load at nodes x) refl (both_true (not (is_one_of x xs)) (are_distinct xs) h) (λ k. one_with load at nodes xs k (λ z m. inside z (or_there (x == z) (is_one_of z xs) m)))
  where
    by : (b : Bool) → has_rank load at nodes x ≡ b → (not (is_one_of x xs) ≡ true) × (are_distinct xs ≡ true) → (are_distinct xs ≡ true → count_by (has_rank load at nodes) xs ≤ 1)
        → count_by (has_rank load at nodes) (x ∷ xs) ≤ 1
    by true k parts rest =
        let none : count_by (has_rank load at nodes) xs ≡ 0 =
        no_other load nodes x at xs (inside x (ap (λ b. b || is_one_of x xs) (eq-eqb x x refl))) (eqb-true (rank load nodes x) at k) (not_true (is_one_of x xs) parts.0)
        (λ z m. inside z (or_there (x == z) (is_one_of z xs) m)) in
        omega (arith, none, counted (has_rank load at nodes) x xs true k)
    by false k parts rest = omega (arith, rest parts.1, counted (has_rank load at nodes) x xs false k)

-- what passes a test passes one of two
counts_within : (p q r : ℕ → Bool) → ((x : ℕ) → p x ≡ true → (q x || r x) ≡ true) → (xs : List ℕ) → count_by p xs ≤ count_by q xs + count_by r xs
counts_within p q r then [] = omega arith
counts_within p q r then (x ∷ xs) = by (p x) (q x) (r x) refl refl refl (counts_within p q r then xs)
  where
    by : (a b c : Bool) → p x ≡ a → q x ≡ b → r x ≡ c → count_by p xs ≤ count_by q xs + count_by r xs → count_by p (x ∷ xs) ≤ count_by q (x ∷ xs) + count_by r (x ∷ xs)
    by true true c k m n rest = by_last c n
      where
        by_last : (c : Bool) → r x ≡ c → count_by p (x ∷ xs) ≤ count_by q (x ∷ xs) + count_by r (x ∷ xs)
        by_last true o = omega (arith, rest, counted p x xs true k, counted q x xs true m, counted r x xs true o)
        by_last false o = omega (arith, rest, counted p x xs true k, counted q x xs true m, counted r x xs false o)
    by true false true k m n rest = omega (arith, rest, counted p x xs true k, counted q x xs false m, counted r x xs true n)
    by true false false k m n rest = let clash : (q x || r x) ≡ true = then x k in cc
    by false true true k m n rest = omega (arith, rest, counted p x xs false k, counted q x xs true m, counted r x xs true n)
    by false true false k m n rest = omega (arith, rest, counted p x xs false k, counted q x xs true m, counted r x xs false n)
    by false false true k m n rest = omega (arith, rest, counted p x xs false k, counted q x xs false m, counted r x xs true n)
    by false false false k m n rest = omega (arith, rest, counted p x xs false k, counted q x xs false m, counted r x xs false n)

-- none is below the first rank
none_below : (load : ℕ → ℕ) (nodes some : List ℕ) → count_by (λ node. nat_lt (rank load nodes node) 0) some ≡ 0
none_below load nodes [] = refl
none_below load nodes (x ∷ xs) =
    let out : nat_lt (rank load nodes x) 0 ≡ false = grind (arith, nat_tests) in
    omega (arith, counted (λ node. nat_lt (rank load nodes node) 0) x xs false out, none_below load nodes xs)

step_down : (a k : ℕ) → nat_lt a (suc k) ≡ true → (nat_lt a k || (a == k)) ≡ true
step_down a k h = grind (arith, nat_tests)

bounded : (load : ℕ → ℕ) (nodes : List ℕ) → are_distinct nodes ≡ true → (count : ℕ) → count_by (λ node. nat_lt (rank load nodes node) count) nodes ≤ count
bounded load nodes h zero = omega (arith, none_below load nodes nodes)
bounded load nodes h (suc k) =
    omega (
      arith,
      bounded load nodes h k,
      one_with load k nodes nodes h (λ y there. there),
      counts_within (λ node. nat_lt (rank load nodes node) (suc k)) (λ node. nat_lt (rank load nodes node) k) (has_rank load k nodes) (λ x m. step_down (rank load nodes x) k m) nodes,
    )

pub few : NoMoreAreChosenThanAsked
few load count nodes h = omega (arith, bounded load nodes h count, length-filter (λ node. nat_lt (rank load nodes node) count) nodes)
