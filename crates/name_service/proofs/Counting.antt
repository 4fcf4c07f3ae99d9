-- As many marked items stand in some lists as there are places for them, where each has a place of its own and none is free.
use Rattle.std.proofs.Common.{◌≡◌, ◌<◌, ◌≤◌, ◌+◌, ◌∙◌, ℕ, zero, suc, Bool, true, false, ◌&&◌, List, [], ◌∷◌, Option, Some, None, refl, sym, ap, cond, slice_get, arith, ◌⊎◌, inl, inr}
use Rattle.std.specs.Prelude.{nat_le, nat_eq, sum_by, count_by}
use Rattle.std.specs.Option.{option_and_then}
use Rattle.std.proofs.lemmas.List.Sums.{sum_by-cons}
use Rattle.std.proofs.lemmas.Bool.{le-leb, lt-leb, eq-eqb, eqb-true}
use Rattle.std.proofs.lemmas.Bool.Decides.{leb_tells, eqb_tells}
use Rattle.std.specs.Prelude.{◌≢◌}

apart : false ≡ true → ⊥
apart e = cc

and_left : (a b : Bool) → a && b ≡ true → a ≡ true
and_left true b e = refl
and_left false b e = absurd (apart e)

and_right : (a b : Bool) → a && b ≡ true → b ≡ true
and_right true b e = e
and_right false b e = absurd (apart e)

abbrev one_if : Bool → ℕ
one_if b = cond b 1 0

module _ {A : Type 0} where
  abbrev pub at : List (List A) → ℕ → ℕ → Option A
  at lists list index = option_and_then (λ items. slice_get items index) (slice_get lists list)

  abbrev pub count_all : (A → Bool) → List (List A) → ℕ
  count_all p lists = sum_by (λ items. count_by p items) lists

  bit : (p : A → Bool) (x : A) (b : Bool) → p x ≡ b → one_if (p x) ≡ one_if b
  bit p x b e = ap one_if e

  -- ---- none

  none_in : (p : A → Bool) (items : List A) → ((index : ℕ) (x : A) → slice_get items index ≡ Some x → p x ≡ false) → count_by p items ≡ 0
  none_in p [] none = refl
  none_in p (x ∷ xs) none =
      omega (arith, sum_by-cons (λ x. cond (p x) 1 0) x xs, bit p x false (none 0 x refl), none_in p xs (λ index y told. none (suc index) y told))

  pub none_all : (p : A → Bool) (lists : List (List A)) → ((list index : ℕ) (x : A) → at lists list index ≡ Some x → p x ≡ false) → count_all p lists ≡ 0
  none_all p [] none = refl
  none_all p (items ∷ lists) none =
      omega (arith, sum_by-cons (λ items. count_by p items) items lists, none_in p items (λ index x told. none 0 index x told), none_all p lists (λ list index x told. none (suc list) index x told))

  -- ---- one

  one_in : (p : A → Bool) (items : List A) (index : ℕ) (x : A) → slice_get items index ≡ Some x → p x ≡ true → ((other : ℕ) (y : A) → slice_get items other ≡ Some y → p y ≡ true → index ≡ other) → count_by p items ≡ 1
  one_in p [] index x told marked alone = cc
  one_in p (y ∷ ys) zero x told marked alone =
      omega (arith, sum_by-cons (λ x. cond (p x) 1 0) y ys, bit p y true (here told), none_in p ys (λ other z is. by other z is (p z) refl))
    where
      here : slice_get (y ∷ ys) zero ≡ Some x → p y ≡ true
      here e = ap (λ (o : Option A). option_and (p y) o) e ∙ marked
        where
          option_and : Bool → Option A → Bool
          option_and b None = b
          option_and b (Some z) = p z

      by : (other : ℕ) (z : A) → slice_get ys other ≡ Some z → (b : Bool) → p z ≡ b → p z ≡ false
      by other z is false e = e
      by other z is true e = absurd (omega (arith, alone (suc other) z is e))
  one_in p (y ∷ ys) (suc index) x told marked alone =
      omega (arith, sum_by-cons (λ x. cond (p x) 1 0) y ys, bit p y false (by (p y) refl), one_in p ys index x told marked (λ other z is e. omega (arith, alone (suc other) z is e)))
    where
      by : (b : Bool) → p y ≡ b → p y ≡ false
      by false e = e
      by true e = absurd (omega (arith, alone zero y refl e))

  pub one_all : (p : A → Bool) (lists : List (List A)) (list index : ℕ) (x : A) → at lists list index ≡ Some x → p x ≡ true
      → ((other_list other : ℕ) (y : A) → at lists other_list other ≡ Some y → p y ≡ true → (list ≡ other_list) × (index ≡ other)) → count_all p lists ≡ 1
  one_all p [] list index x told marked alone = cc
  one_all p (items ∷ lists) zero index x told marked alone =
      omega (
        arith,
        sum_by-cons (λ items. count_by p items) items lists,
        one_in p items index x told marked (λ other y is e. (alone zero other y is e).1),
        none_all p lists (λ other_list other y is. by other_list other y is (p y) refl),
      )
    where
      by : (other_list other : ℕ) (y : A) → at lists other_list other ≡ Some y → (b : Bool) → p y ≡ b → p y ≡ false
      by other_list other y is false e = e
      by other_list other y is true e = absurd (omega (arith, (alone (suc other_list) other y is e).0))
  one_all p (items ∷ lists) (suc list) index x told marked alone =
      omega (
        arith,
        sum_by-cons (λ items. count_by p items) items lists,
        none_in p items (λ other y is. by other y is (p y) refl),
        one_all p lists list index x told marked (λ other_list other y is e. (omega (arith, (alone (suc other_list) other y is e).0), (alone (suc other_list) other y is e).1)),
      )
    where
      by : (other : ℕ) (y : A) → slice_get items other ≡ Some y → (b : Bool) → p y ≡ b → p y ≡ false
      by other y is false e = e
      by other y is true e = absurd (omega (arith, (alone zero other y is e).0))

  -- ---- one test that is two

  two_in : (p q r : A → Bool) (items : List A) → ((index : ℕ) (x : A) → slice_get items index ≡ Some x → one_if (p x) ≡ one_if (q x) + one_if (r x)) → count_by p items ≡ count_by q items + count_by r items
  two_in p q r [] is = refl
  two_in p q r (x ∷ xs) is =
      omega (arith, sum_by-cons (λ x. cond (p x) 1 0) x xs, sum_by-cons (λ x. cond (q x) 1 0) x xs, sum_by-cons (λ x. cond (r x) 1 0) x xs, is 0 x refl, two_in p q r xs (λ index y told. is (suc index) y told))

  pub two_all : (p q r : A → Bool) (lists : List (List A)) → ((list index : ℕ) (x : A) → at lists list index ≡ Some x → one_if (p x) ≡ one_if (q x) + one_if (r x)) → count_all p lists ≡ count_all q lists + count_all r lists
  two_all p q r [] is = refl
  two_all p q r (items ∷ lists) is =
      omega (
        arith,
        sum_by-cons (λ items. count_by p items) items lists,
        sum_by-cons (λ items. count_by q items) items lists,
        sum_by-cons (λ items. count_by r items) items lists,
        two_in p q r items (λ index x told. is 0 index x told),
        two_all p q r lists (λ list index x told. is (suc list) index x told),
      )

-- ---- as many as places

module _ {A : Type 0} (lists : List (List A)) (marked : A → Bool) (place : A → ℕ) (first : ℕ)
    (alone : (list index other_list other : ℕ) (x y : A) → at lists list index ≡ Some x → at lists other_list other ≡ Some y → marked x ≡ true → marked y ≡ true → place x ≡ place y → (list ≡ other_list) × (index ≡ other)) where
  abbrev up_to : ℕ → A → Bool
  up_to k x = marked x && nat_le (place x) (first + k)

  abbrev at_place : ℕ → A → Bool
  at_place k x = marked x && nat_eq (place x) (first + k)

  abbrev pub Behind : Type 0
  Behind = (list index : ℕ) (x : A) → at lists list index ≡ Some x → marked x ≡ true → first < place x

  abbrev pub Filled : ℕ → Type 0
  Filled k = (list : ℕ) × (index : ℕ) × (x : A) × (at lists list index ≡ Some x) × (marked x ≡ true) × (place x ≡ first + k)

  none_before : Behind → count_all (up_to zero) lists ≡ 0
  none_before behind = none_all (up_to zero) lists (λ list index x told. by list index x told (marked x) refl)
    where
      by : (list index : ℕ) (x : A) → at lists list index ≡ Some x → (b : Bool) → marked x ≡ b → up_to zero x ≡ false
      by list index x told false e = ap (λ (b : Bool). b && nat_le (place x) (first + zero)) e
      by list index x told true e = ap (λ (b : Bool). b && nat_le (place x) (first + zero)) e ∙ lt-leb (place x) (first + zero) (omega (arith, behind list index x told e))

  -- what stands at most here stands at most before it, or here
  parted : (k : ℕ) (x : A) → one_if (up_to (suc k) x) ≡ one_if (up_to k x) + one_if (at_place (suc k) x)
  parted k x = by (marked x) (leb_tells (place x) (first + suc k)) (leb_tells (place x) (first + k)) (eqb_tells (place x) (first + suc k))
    where
      by : (b : Bool)
          → ((nat_le (place x) (first + suc k) ≡ true) × (place x ≤ first + suc k)) ⊎ ((nat_le (place x) (first + suc k) ≡ false) × (first + suc k < place x))
          → ((nat_le (place x) (first + k) ≡ true) × (place x ≤ first + k)) ⊎ ((nat_le (place x) (first + k) ≡ false) × (first + k < place x))
          → ((nat_eq (place x) (first + suc k) ≡ true) × (place x ≡ first + suc k)) ⊎ ((nat_eq (place x) (first + suc k) ≡ false) × (place x ≢ first + suc k))
          → one_if (b && nat_le (place x) (first + suc k)) ≡ one_if (b && nat_le (place x) (first + k)) + one_if (b && nat_eq (place x) (first + suc k))
      by false p q r = refl
      by true p q r = cases p q r
        where
          sum : (b c d : Bool) → nat_le (place x) (first + suc k) ≡ b → nat_le (place x) (first + k) ≡ c → nat_eq (place x) (first + suc k) ≡ d
              → one_if b ≡ one_if c + one_if d
              → one_if (nat_le (place x) (first + suc k)) ≡ one_if (nat_le (place x) (first + k)) + one_if (nat_eq (place x) (first + suc k))
          sum b c d e f g is = omega (arith, ap one_if e, ap one_if f, ap one_if g, is)

          cases : ((nat_le (place x) (first + suc k) ≡ true) × (place x ≤ first + suc k)) ⊎ ((nat_le (place x) (first + suc k) ≡ false) × (first + suc k < place x))
              → ((nat_le (place x) (first + k) ≡ true) × (place x ≤ first + k)) ⊎ ((nat_le (place x) (first + k) ≡ false) × (first + k < place x))
              → ((nat_eq (place x) (first + suc k) ≡ true) × (place x ≡ first + suc k)) ⊎ ((nat_eq (place x) (first + suc k) ≡ false) × (place x ≢ first + suc k))
              → one_if (nat_le (place x) (first + suc k)) ≡ one_if (nat_le (place x) (first + k)) + one_if (nat_eq (place x) (first + suc k))
          cases (inl (e, p)) (inl (f, q)) (inl (g, r)) = absurd (omega (arith, q, r))
          cases (inl (e, p)) (inl (f, q)) (inr (g, r)) = sum true true false e f g refl
          cases (inl (e, p)) (inr (f, q)) (inl (g, r)) = sum true false true e f g refl
          cases (inl (e, p)) (inr (f, q)) (inr (g, r)) = absurd (r (omega (arith, p, q)))
          cases (inr (e, p)) (inl (f, q)) r = absurd (omega (arith, p, q))
          cases (inr (e, p)) (inr (f, q)) (inl (g, r)) = absurd (omega (arith, p, r))
          cases (inr (e, p)) (inr (f, q)) (inr (g, r)) = sum false false false e f g refl

  -- one stands here
  one_here : (k : ℕ) → Filled k → count_all (at_place k) lists ≡ 1
  one_here k (list, index, x, told, is_marked, here) =
      one_all (at_place k) lists list index x told (ap (λ (b : Bool). b && nat_eq (place x) (first + k)) is_marked ∙ eq-eqb (place x) (first + k) here)
      (λ other_list other y is too. alone list index other_list other x y told is is_marked (both y too).0 (here ∙ sym (both y too).1))
    where
      both : (y : A) → at_place k y ≡ true → (marked y ≡ true) × (place y ≡ first + k)
      both y e = (and_left (marked y) (nat_eq (place y) (first + k)) e, eqb-true (place y) (first + k) (and_right (marked y) (nat_eq (place y) (first + k)) e))

  counted_up : Behind → (k : ℕ) → ((j : ℕ) → 0 < j → j ≤ k → Filled j) → count_all (up_to k) lists ≡ k
  counted_up behind zero filled = none_before behind
  counted_up behind (suc k) filled =
      omega (arith, two_all (up_to (suc k)) (up_to k) (at_place (suc k)) lists (λ list index x told. parted k x), counted_up behind k (λ j past low. filled j past (omega (arith, low))), one_here (suc k) (filled (suc k) (omega arith) (omega arith)))

  pub counted : (count : ℕ) → ((list index : ℕ) (x : A) → at lists list index ≡ Some x → marked x ≡ true → (first < place x) × (place x ≤ first + count))
      → ((j : ℕ) → 0 < j → j ≤ count → Filled j) → count_all marked lists ≡ count
  counted count within filled =
      omega (
        arith,
        two_all marked (up_to count) (λ x. false) lists (λ list index x told. by list index x told (marked x) refl),
        none_all (λ x. false) lists (λ list index x told. refl),
        counted_up (λ list index x told e. (within list index x told e).0) count filled,
      )
    where
      by : (list index : ℕ) (x : A) → at lists list index ≡ Some x → (b : Bool) → marked x ≡ b → one_if (marked x) ≡ one_if (up_to count x) + 0
      by list index x told false e = omega (arith, ap one_if e, ap (λ (b : Bool). one_if (b && nat_le (place x) (first + count))) e)
      by list index x told true e =
          omega (
            arith,
            ap one_if e,
            ap (λ (b : Bool). one_if (b && nat_le (place x) (first + count))) e,
            ap one_if (le-leb (place x) (first + count) (within list index x told e).1),
          )
