-- Items that are shared out by the numbers beside them.
use Rattle.std.proofs.Common.{◌≡◌, ◌∙◌, ℕ, zero, suc, Bool, true, false, List, [], ◌∷◌, ◌++◌, map, take, drop, Option, Some, None, refl, sym, ap, cond, slice_get, arith, ◌≢◌, eq-eqb}
use Rattle.name_service.proofs.Placing.{some_is}
use Rattle.std.specs.Prelude.{nat_eq, filter, count_by}
use Rattle.std.proofs.lemmas.List.Sums.{sum_by-cons}
use Rattle.name_service.specs.Shares.{shared}

abbrev one_if : Bool → ℕ
one_if b = cond b 1 0

module _ {A : Type 0} where
  pub shared_by : (f : A → ℕ) (number : ℕ) (items : List A) → shared number (map f items) items ≡ filter (λ x. nat_eq (f x) number) items
  shared_by f number [] = refl
  shared_by f number (x ∷ xs) = by (shared_by f number xs) (nat_eq (f x) number)
    where
      by : shared number (map f xs) xs ≡ filter (λ x. nat_eq (f x) number) xs → (b : Bool) → cond b (x ∷ shared number (map f xs) xs) (shared number (map f xs) xs) ≡ cond b (x ∷ filter (λ x. nat_eq (f x) number) xs) (filter (λ x. nat_eq (f x) number) xs)
      by e true = ap (λ (l : List A). x ∷ l) e
      by e false = e

  -- one more of both
  pub shared_more : (number : ℕ) (numbers : List ℕ) (items : List A) (i n : ℕ) (x : A) → slice_get numbers i ≡ Some n → slice_get items i ≡ Some x
      → shared number (take (suc i) numbers) (take (suc i) items) ≡ shared number (take i numbers) (take i items) ++ cond (nat_eq n number) (x ∷ []) []
  shared_more number [] items i n x at is = cc
  shared_more number (m ∷ numbers) [] i n x at is = cc
  shared_more number (m ∷ numbers) (y ∷ items) zero n x at is = head at is
    where
      head : slice_get (m ∷ numbers) zero ≡ Some n → slice_get (y ∷ items) zero ≡ Some x
          → shared number (take (suc zero) (m ∷ numbers)) (take (suc zero) (y ∷ items)) ≡ cond (nat_eq n number) (x ∷ []) []
      head e f = cc
  shared_more number (m ∷ numbers) (y ∷ items) (suc i) n x at is = by (nat_eq m number) (shared_more number numbers items i n x at is)
    where
      by : (b : Bool) → shared number (take (suc i) numbers) (take (suc i) items) ≡ shared number (take i numbers) (take i items) ++ cond (nat_eq n number) (x ∷ []) []
          → cond b (y ∷ shared number (take (suc i) numbers) (take (suc i) items)) (shared number (take (suc i) numbers) (take (suc i) items))
          ≡ cond b (y ∷ shared number (take i numbers) (take i items)) (shared number (take i numbers) (take i items)) ++ cond (nat_eq n number) (x ∷ []) []
      by true e = ap (λ (l : List A). y ∷ l) e
      by false e = e

  -- up to some place, and from there on
  pub shared_parts : (number : ℕ) (numbers : List ℕ) (items : List A) (i : ℕ) → shared number numbers items ≡ shared number (take i numbers) (take i items) ++ shared number (drop i numbers) (drop i items)
  shared_parts number [] items zero = refl
  shared_parts number [] items (suc i) = none (drop (suc i) items)
    where
      none : (rest : List A) → [] ≡ shared {A = A} number [] rest
      none rest = refl
  shared_parts number (n ∷ numbers) items zero = refl
  shared_parts number (n ∷ numbers) [] (suc i) = sym (none (drop i numbers))
    where
      none : (rest : List ℕ) → shared {A = A} number rest [] ≡ []
      none [] = refl
      none (m ∷ rest) = refl
  shared_parts number (n ∷ numbers) (x ∷ items) (suc i) = by (nat_eq n number) (shared_parts number numbers items i)
    where
      by : (b : Bool) → shared number numbers items ≡ shared number (take i numbers) (take i items) ++ shared number (drop i numbers) (drop i items)
          → cond b (x ∷ shared number numbers items) (shared number numbers items)
          ≡ cond b (x ∷ shared number (take i numbers) (take i items)) (shared number (take i numbers) (take i items)) ++ shared number (drop i numbers) (drop i items)
      by true e = ap (λ (l : List A). x ∷ l) e
      by false e = e

  -- what comes from an item of this number on
  pub shared_from : (number : ℕ) (numbers : List ℕ) (items : List A) (i : ℕ) (x : A) → slice_get numbers i ≡ Some number → slice_get items i ≡ Some x → shared number (drop i numbers) (drop i items) ≢ []
  shared_from number [] items i x at is = cc
  shared_from number (m ∷ numbers) [] i x at is = cc
  shared_from number (m ∷ numbers) (y ∷ items) zero x at is = λ none. begins (ap (λ (b : Bool). cond b (y ∷ shared number numbers items) (shared number numbers items)) (sym (eq-eqb m number (some_is m number at))) ∙ none)
    where
      begins : y ∷ shared number numbers items ≡ [] → ⊥
      begins e = cc
  shared_from number (m ∷ numbers) (y ∷ items) (suc i) x at is = shared_from number numbers items i x at is

  -- where an item that passes stands among those that do
  pub at_its_place : (p : A → Bool) (items : List A) (i : ℕ) (x : A) → slice_get items i ≡ Some x → p x ≡ true → slice_get (filter p items) (count_by p (take i items)) ≡ Some x
  at_its_place p [] i x is passes = cc
  at_its_place p (y ∷ ys) zero x is passes = first is
    where
      first : slice_get (y ∷ ys) zero ≡ Some x → slice_get (filter p (y ∷ ys)) zero ≡ Some x
      first e = ap (λ (b : Bool). slice_get (cond b (y ∷ filter p ys) (filter p ys)) zero) (passes_too e) ∙ e
        where
          value : Option A → Bool
          value None = true
          value (Some z) = p z

          passes_too : slice_get (y ∷ ys) zero ≡ Some x → p y ≡ true
          passes_too e = ap value e ∙ passes
  at_its_place p (y ∷ ys) (suc i) x is passes = by (at_its_place p ys i x is passes) (p y) refl
    where
      counted_in : p y ≡ true → count_by p (take (suc i) (y ∷ ys)) ≡ suc (count_by p (take i ys))
      counted_in e = omega (arith, sum_by-cons (λ x. cond (p x) 1 0) y (take i ys), ap one_if e)

      passed_over : p y ≡ false → count_by p (take (suc i) (y ∷ ys)) ≡ count_by p (take i ys)
      passed_over e = omega (arith, sum_by-cons (λ x. cond (p x) 1 0) y (take i ys), ap one_if e)

      by : slice_get (filter p ys) (count_by p (take i ys)) ≡ Some x → (b : Bool) → p y ≡ b → slice_get (filter p (y ∷ ys)) (count_by p (take (suc i) (y ∷ ys))) ≡ Some x
      by own true e =
          ap (λ (k : ℕ). slice_get (filter p (y ∷ ys)) k) (counted_in e) ∙ (ap (λ (c : Bool). slice_get (cond c (y ∷ filter p ys) (filter p ys)) (suc (count_by p (take i ys)))) e ∙ own)
      by own false e =
          ap (λ (k : ℕ). slice_get (filter p (y ∷ ys)) k) (passed_over e) ∙ (ap (λ (c : Bool). slice_get (cond c (y ∷ filter p ys) (filter p ys)) (count_by p (take i ys))) e ∙ own)
