-- Orders by a number first and an id then.
use Rattle.std.proofs.Common.{◌≡◌, ℕ, ◌+◌, ◌<◌, ◌≤◌, ◌==◌, Bool, true, false, ◌||◌, List, [], ◌∷◌, filter, cond, refl, sym, ap, ◌∙◌, arith}
use Rattle.std.specs.List.{count_by}
use Rattle.std.proofs.lemmas.Bool.{eqb-true}
use Rattle.std.proofs.lemmas.List.Sums.{sum_by-cons}
use Rattle.placement_laws.specs.Laws.{is_one_of}

-- ---- elements of a list

pub or_there : (a b : Bool) → b ≡ true → (a || b) ≡ true
or_there true b h = refl
or_there false b h = h

pub of_filter : (p : ℕ → Bool) (node : ℕ) (nodes : List ℕ) → is_one_of node (filter p nodes) ≡ true → (p node ≡ true) × (is_one_of node nodes ≡ true)
of_filter p node [] h = cc
of_filter p node (x ∷ xs) h = by (p x) (x == node) refl refl h (λ k. of_filter p node xs k)
  where
    by : (kept own : Bool) → p x ≡ kept → (x == node) ≡ own → is_one_of node (cond kept (x ∷ filter p xs) (filter p xs)) ≡ true
        → (is_one_of node (filter p xs) ≡ true → (p node ≡ true) × (is_one_of node xs ≡ true)) → (p node ≡ true) × ((own || is_one_of node xs) ≡ true)
    by true true k is h rest = (ap p (sym (eqb-true x node is)) ∙ k, refl)
    by true false k is h rest = rest (ap (λ b. b || is_one_of node (filter p xs)) (sym is) ∙ h)
    by false true k is h rest = let found = rest h in (found.0, refl)
    by false false k is h rest = rest h

pub in_filter : (p : ℕ → Bool) (node : ℕ) (nodes : List ℕ) → p node ≡ true → is_one_of node nodes ≡ true → is_one_of node (filter p nodes) ≡ true
in_filter p node [] k h = cc
in_filter p node (x ∷ xs) k h = by (p x) (x == node) refl refl h (λ rest. in_filter p node xs k rest)
  where
    by : (kept own : Bool) → p x ≡ kept → (x == node) ≡ own → (own || is_one_of node xs) ≡ true → (is_one_of node xs ≡ true → is_one_of node (filter p xs) ≡ true)
        → is_one_of node (cond kept (x ∷ filter p xs) (filter p xs)) ≡ true
    by true true out is h rest = ap (λ b. b || is_one_of node (filter p xs)) is
    by true false out is h rest = ap (λ b. b || is_one_of node (filter p xs)) is ∙ rest h
    by false true out is h rest = let clash : p x ≡ true = ap p (eqb-true x node is) ∙ k in cc
    by false false out is h rest = rest h

-- ---- counting

pub counted : (p : ℕ → Bool) (x : ℕ) (xs : List ℕ) (b : Bool) → p x ≡ b → count_by p (x ∷ xs) ≡ cond b 1 0 + count_by p xs
counted p x xs b h = sum_by-cons (λ y. cond (p y) 1 0) x xs ∙ ap (λ c. cond c 1 0 + count_by p xs) h

-- what passes one test passes another
pub counts_less : (p q : ℕ → Bool) → ((x : ℕ) → p x ≡ true → q x ≡ true) → (xs : List ℕ) → count_by p xs ≤ count_by q xs
counts_less p q then [] = omega arith
counts_less p q then (x ∷ xs) = by (p x) (q x) refl refl (counts_less p q then xs)
  where
    by : (a b : Bool) → p x ≡ a → q x ≡ b → count_by p xs ≤ count_by q xs → count_by p (x ∷ xs) ≤ count_by q (x ∷ xs)
    by true true k m rest = omega (arith, rest, counted p x xs true k, counted q x xs true m)
    by true false k m rest = let clash : q x ≡ true = then x k in cc
    by false true k m rest = omega (arith, rest, counted p x xs false k, counted q x xs true m)
    by false false k m rest = omega (arith, rest, counted p x xs false k, counted q x xs false m)

-- and one that is there passes the other alone
pub counts_fewer : (p q : ℕ → Bool) (node : ℕ) → ((x : ℕ) → p x ≡ true → q x ≡ true) → p node ≡ false → q node ≡ true → (xs : List ℕ) → is_one_of node xs ≡ true → count_by p xs < count_by q xs
counts_fewer p q node then out here [] h = cc
counts_fewer p q node then out here (x ∷ xs) h = by (x == node) (p x) (q x) refl refl refl h (λ k. counts_fewer p q node then out here xs k)
  where
    by : (own a b : Bool) → (x == node) ≡ own → p x ≡ a → q x ≡ b → (own || is_one_of node xs) ≡ true → (is_one_of node xs ≡ true → count_by p xs < count_by q xs) → count_by p (x ∷ xs) < count_by q (x ∷ xs)
    by true a b is k m h rest =
        let at : x ≡ node = eqb-true x node is in
        omega (arith, counts_less p q then xs, counted p x xs false (ap p at ∙ out), counted q x xs true (ap q at ∙ here))
    by false true true is k m h rest = omega (arith, rest h, counted p x xs true k, counted q x xs true m)
    by false true false is k m h rest = let clash : q x ≡ true = then x k in cc
    by false false true is k m h rest = omega (arith, rest h, counted p x xs false k, counted q x xs true m)
    by false false false is k m h rest = omega (arith, rest h, counted p x xs false k, counted q x xs false m)
