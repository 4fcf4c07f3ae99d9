-- Counters of which one goes on, and what holds of each item by its place.
use Rattle.std.proofs.Common.{◌≡◌, ◌<◌, ◌+◌, ◌∙◌, ℕ, zero, suc, Bool, true, false, List, [], ◌∷◌, ◌++◌, map, length, take, set, Option, Some, refl, sym, ap, subst, slice_get, get_or, arith, get_or-set_other, eqb-true, eq-eqb}
use Rattle.std.specs.Prelude.{nat_eq, count_by, unwrap_or}
use Rattle.std.proofs.lemmas.Bool.{eqb-false}
use Rattle.std.proofs.lemmas.List.{get_or-set_same, map-append}
use Rattle.std.proofs.lemmas.List.Sums.{count_by_more_yes, count_by_more_no}

pub some_is : {A : Type 0} (x y : A) → Some x ≡ Some y → x ≡ y
some_is {A} x y e = ap (λ (o : Option A). unwrap_or o x) e

module _ {A : Type 0} where
  -- of lists that are joined
  pub get_right : (xs ys : List A) (i : ℕ) → slice_get (xs ++ ys) (length xs + i) ≡ slice_get ys i
  get_right [] ys i = ap (slice_get ys) (omega arith)
  get_right (x ∷ xs) ys i =
      let e : length (x ∷ xs) + i ≡ suc (length xs + i) = omega arith in
      ap (slice_get (x ∷ xs ++ ys)) e ∙ get_right xs ys i

  -- one item more, of which it holds at its place
  pub grown : (P : ℕ → A → Type 0) (xs : List A) (x : A) → ((i : ℕ) (y : A) → slice_get xs i ≡ Some y → P i y) → P (length xs) x → (i : ℕ) (y : A) → slice_get (xs ++ x ∷ []) i ≡ Some y → P i y
  grown P [] x all own zero y e = subst (λ (z : A). P 0 z) (some_is x y e) own
  grown P [] x all own (suc i) y e = cc
  grown P (z ∷ xs) x all own zero y e = all zero y e
  grown P (z ∷ xs) x all own (suc i) y e =
      let len : length (z ∷ xs) ≡ suc (length xs) = omega arith in
      grown (λ i y. P (suc i) y) xs x (λ i y e. all (suc i) y e) (subst (λ n. P n x) len own) i y e

  pub maps_more : {B C : Type 0} (g : B → C) (f : A → C) (ys : List B) (xs : List A) (y : B) (x : A) → map g ys ≡ map f xs → g y ≡ f x → map g (ys ++ y ∷ []) ≡ map f (xs ++ x ∷ [])
  maps_more g f ys xs y x same is = map-append g ys (y ∷ []) ∙ (ap (λ l. l ++ g y ∷ []) same ∙ (ap (λ z. map f xs ++ z ∷ []) is ∙ sym (map-append f xs (x ∷ []))))

  module _ (number_of : A → ℕ) (items : List A) (i : ℕ) (x : A) (within : i < length items) (is : x ≡ get_or items i x) where
    at : number_of (get_or items i x) ≡ number_of x
    at = ap number_of (sym is)

    pub counts_one : count_by (λ y. nat_eq (number_of y) (number_of x)) (take (i + 1) items) ≡ count_by (λ y. nat_eq (number_of y) (number_of x)) (take i items) + 1
    counts_one = count_by_more_yes (λ y. nat_eq (number_of y) (number_of x)) items i x within (ap (λ k. nat_eq k (number_of x)) at ∙ eq-eqb (number_of x) (number_of x) refl)

    -- each counter goes on by what is counted, where the item's own has one more
    pub counted : (next start : List ℕ) → number_of x < length next
        → ((n : ℕ) → n < length next → get_or next n 0 ≡ get_or start n 0 + count_by (λ y. nat_eq (number_of y) n) (take i items))
        → (n : ℕ) → n < length next → get_or (set next (number_of x) (get_or next (number_of x) 0 + 1)) n 0 ≡ get_or start n 0 + count_by (λ y. nat_eq (number_of y) n) (take (i + 1) items)
    counted next start short all n small = by (nat_eq (number_of x) n) refl
      where
        one_more : ℕ
        one_more = get_or next (number_of x) 0 + 1

        by : (b : Bool) → nat_eq (number_of x) n ≡ b → get_or (set next (number_of x) one_more) n 0 ≡ get_or start n 0 + count_by (λ y. nat_eq (number_of y) n) (take (i + 1) items)
        by true e = subst (λ m. get_or (set next (number_of x) one_more) m 0 ≡ get_or start m 0 + count_by (λ y. nat_eq (number_of y) m) (take (i + 1) items)) (eqb-true (number_of x) n e)
            (omega (arith, get_or-set_same next (number_of x) one_more 0 short, counts_one, all (number_of x) short))
        by false e = get_or-set_other next (number_of x) n one_more 0 (λ same. eqb-false (number_of x) n e (sym same)) ∙ (all n small
            ∙ ap (λ c. get_or start n 0 + c) (sym (count_by_more_no (λ y. nat_eq (number_of y) n) items i x within (ap (λ k. nat_eq k n) at ∙ e))))
