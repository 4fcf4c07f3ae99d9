-- How many elements of a sorted list are before an element.
use Rattle.std.proofs.Common.{◌≡◌, ℕ, zero, suc, ◌+◌, ◌-◌, ◌<◌, ◌≤◌, Bool, true, false, List, [], ◌∷◌, length, get_or, Some, None, refl, sym, ap, ◌∙◌, cond, arith, true≢false}
use Rattle.std.proofs.lemmas.List.Sorted.{sorted_far}
use Rattle.std.proofs.lemmas.List.Sums.{sum_by-cons}
use Rattle.std.specs.Cmp.{IsStrictWeakOrder}
use Rattle.std.specs.List.{AllByRecursion, count_by, slice_get}
use Rattle.std.specs.List.Sorted.{IsSortedBy}

module _ {X : Type 0} (lt : X → X → Bool) (o : IsStrictWeakOrder lt) where
  abbrev pub Rises : List X → Type 0
  Rises [] = Unit {0}
  Rises (x ∷ xs) = AllByRecursion (λ y. lt y x ≡ false) xs × Rises xs

  -- one element more to count
  counted : (x own : X) (xs : List X) (b : Bool) → lt x own ≡ b → count_by (λ y. lt y own) (x ∷ xs) ≡ cond b 1 0 + count_by (λ y. lt y own) xs
  counted x own xs b here = sum_by-cons (λ y. cond (lt y own) 1 0) x xs ∙ ap (λ c. cond c 1 0 + count_by (λ y. lt y own) xs) here

  none_before : (x own : X) (xs : List X) → lt x own ≡ false → AllByRecursion (λ y. lt y x ≡ false) xs → count_by (λ y. lt y own) xs ≡ 0
  none_before x own [] here above = refl
  none_before x own (y ∷ ys) here above = omega (arith, counted y own ys false (o.chain y x own above.0 here), none_before x own ys here above.1)

  -- what is before an element is before what comes behind it
  before_all : (x y own : X) → lt y x ≡ false → lt y own ≡ true → lt x own ≡ true
  before_all x y own above here = by (lt x own) refl
    where
      by : (b : Bool) → lt x own ≡ b → b ≡ true
      by true at = refl
      by false at = absurd (true≢false (sym here ∙ o.chain y x own above at))

  at_place : (xs : List X) (x p : X) (k : ℕ) → slice_get xs k ≡ Some p → AllByRecursion (λ y. lt y x ≡ false) xs → lt p x ≡ false
  at_place [] x p k there above = cc
  at_place (y ∷ ys) x p zero there above = let e : y ≡ p = cc in ap (λ z. lt z x) (sym e) ∙ above.0
  at_place (y ∷ ys) x p (suc k) there above = at_place ys x p k there above.1

  -- an element has no more elements before it than the one at a place, if it isn't behind that one
  pub none_more : (own p : X) (xs : List X) (k : ℕ) → Rises xs → slice_get xs k ≡ Some p → lt p own ≡ false → count_by (λ y. lt y own) xs ≤ k
  none_more own p [] k up there here = cc
  none_more own p (x ∷ xs) zero up there here =
      let e : x ≡ p = cc in
      let first : lt x own ≡ false = ap (λ z. lt z own) e ∙ here in
      omega (arith, counted x own xs false first, none_before x own xs first up.0)
  none_more own p (x ∷ xs) (suc k) up there here = by (lt x own) refl (none_more own p xs k up.1 there here)
    where
      by : (b : Bool) → lt x own ≡ b → count_by (λ y. lt y own) xs ≤ k → count_by (λ y. lt y own) (x ∷ xs) ≤ suc k
      by true at few = omega (arith, few, counted x own xs true at)
      by false at few = omega (arith, few, counted x own xs false at)

  -- and it has more of them if it is behind that one
  pub no_fewer : (own p : X) (xs : List X) (k : ℕ) → Rises xs → slice_get xs k ≡ Some p → lt p own ≡ true → k < count_by (λ y. lt y own) xs
  no_fewer own p [] k up there here = cc
  no_fewer own p (x ∷ xs) zero up there here =
      let e : x ≡ p = cc in
      omega (arith, counted x own xs true (ap (λ z. lt z own) e ∙ here))
  no_fewer own p (x ∷ xs) (suc k) up there here =
      let first : lt x own ≡ true = before_all x p own (at_place xs x p k there up.0) here in
      omega (arith, counted x own xs true first, no_fewer own p xs k up.1 there here)

  pub none_at : (xs : List X) (k : ℕ) → slice_get xs k ≡ None → length xs ≤ k
  none_at [] k there = omega arith
  none_at (x ∷ xs) zero there = cc
  none_at (x ∷ xs) (suc k) there = omega (arith, none_at xs k there)

  abbrev Far : List X → Type 0
  Far xs = (i j : ℕ) (d : X) → i ≤ j → j < length xs → lt (get_or xs j d) (get_or xs i d) ≡ false

  all_by_place : (P : X → Type 0) (xs : List X) → ((j : ℕ) (d : X) → j < length xs → P (get_or xs j d)) → AllByRecursion P xs
  all_by_place P [] holds = tt
  all_by_place P (x ∷ xs) holds = (holds 0 x (omega arith), all_by_place P xs (λ j d within. holds (suc j) d (omega (arith, within))))

  rises_far : (xs : List X) → Far xs → Rises xs
  rises_far [] far = tt
  rises_far (x ∷ xs) far = (
    all_by_place (λ y. lt y x ≡ false) xs (λ j d within. far 0 (suc j) d (omega arith) (omega (arith, within))),
    rises_far xs (λ i j d up within. far (suc i) (suc j) d (omega (arith, up)) (omega (arith, within))),
  )

  pub rises : (xs : List X) → IsSortedBy lt xs → Rises xs
  rises xs up = rises_far xs (sorted_far lt o xs up)
