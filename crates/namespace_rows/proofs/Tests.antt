-- Tests on every element of a list and on some, through filters and appends.
use Rattle.std.proofs.Common.{◌≡◌, Bool, true, false, ◌&&◌, ◌||◌, List, [], ◌∷◌, ◌++◌, refl, ◌∙◌, cond}
use Rattle.std.specs.Prelude.{filter}
use Rattle.std.specs.List.{list_all, list_any}
use Rattle.std.proofs.lemmas.List.Folds.{list_all-append}

pub both : (a b : Bool) → (a && b) ≡ true → (a ≡ true) × (b ≡ true)
both true true h = (refl, refl)
both true false h = cc
both false b h = cc

pub and : (a b : Bool) → a ≡ true → b ≡ true → (a && b) ≡ true
and a b h k = rw (h, k) refl

pub and_false : (a : Bool) → (a && false) ≡ false
and_false true = refl
and_false false = refl

pub or_left : (a b : Bool) → a ≡ true → (a || b) ≡ true
or_left a b h = rw h refl

pub or_right : (a b : Bool) → b ≡ true → (a || b) ≡ true
or_right true b h = refl
or_right false b h = h

module _ {X : Type 0} where
  pub all_imp : (p q : X → Bool) → ((x : X) → p x ≡ true → q x ≡ true) → (xs : List X) → list_all p xs ≡ true → list_all q xs ≡ true
  all_imp p q f [] h = refl
  all_imp p q f (x ∷ xs) h = let parts = both (p x) (list_all p xs) h in and _ _ (f x parts.0) (all_imp p q f xs parts.1)

  pub any_imp : (p q : X → Bool) → ((x : X) → p x ≡ true → q x ≡ true) → (xs : List X) → list_any p xs ≡ true → list_any q xs ≡ true
  any_imp p q f [] h = cc
  any_imp p q f (x ∷ xs) h = by_head (p x) refl h (any_imp p q f xs)
    where
      by_head : (b : Bool) → p x ≡ b → (b || list_any p xs) ≡ true → (list_any p xs ≡ true → list_any q xs ≡ true) → list_any q (x ∷ xs) ≡ true
      by_head true e k others = or_left _ _ (f x e)
      by_head false e k others = or_right (q x) _ (others k)

  pub all_both : (p q : X → Bool) (xs : List X) → list_all p xs ≡ true → list_all q xs ≡ true → list_all (λ x. p x && q x) xs ≡ true
  all_both p q [] h k = refl
  all_both p q (x ∷ xs) h k =
      let hs = both (p x) (list_all p xs) h in
      let ks = both (q x) (list_all q xs) k in
      and _ _ (and _ _ hs.0 ks.0) (all_both p q xs hs.1 ks.1)

  pub all_append : (p : X → Bool) (xs ys : List X) → list_all p xs ≡ true → list_all p ys ≡ true → list_all p (xs ++ ys) ≡ true
  all_append p xs ys h k = list_all-append p xs ys ∙ and _ _ h k

  -- what passes a filter passes its test
  pub all_filtered : (p : X → Bool) (xs : List X) → list_all p (filter p xs) ≡ true
  all_filtered p [] = refl
  all_filtered p (x ∷ xs) = by_head (p x) refl (all_filtered p xs)
    where
      by_head : (b : Bool) → p x ≡ b → list_all p (filter p xs) ≡ true → list_all p (cond b (x ∷ filter p xs) (filter p xs)) ≡ true
      by_head true e others = and _ _ e others
      by_head false e others = others

  -- and what it passed before
  pub all_kept : (p q : X → Bool) (xs : List X) → list_all q xs ≡ true → list_all q (filter p xs) ≡ true
  all_kept p q [] h = refl
  all_kept p q (x ∷ xs) h = let parts = both (q x) (list_all q xs) h in by_head (p x) parts.0 (all_kept p q xs parts.1)
    where
      by_head : (b : Bool) → q x ≡ true → list_all q (filter p xs) ≡ true → list_all q (cond b (x ∷ filter p xs) (filter p xs)) ≡ true
      by_head true here others = and _ _ here others
      by_head false here others = others

  -- of what is found among some, what is found in either of two filters that pass all of it
  pub any_parted : (p r q : X → Bool) → ((x : X) → q x ≡ true → (p x || r x) ≡ true) → (xs : List X) → list_any q xs ≡ true
      → (list_any q (filter p xs) || list_any q (filter r xs)) ≡ true
  any_parted p r q f [] h = cc
  any_parted p r q f (x ∷ xs) h = by_test (q x) refl h (any_parted p r q f xs)
    where
      in_first : list_any q (filter p xs) ≡ true → list_any q (filter p (x ∷ xs)) ≡ true
      in_first k = by (p x)
        where
          by : (b : Bool) → list_any q (cond b (x ∷ filter p xs) (filter p xs)) ≡ true
          by true = or_right (q x) _ k
          by false = k

      in_second : list_any q (filter r xs) ≡ true → list_any q (filter r (x ∷ xs)) ≡ true
      in_second k = by (r x)
        where
          by : (b : Bool) → list_any q (cond b (x ∷ filter r xs) (filter r xs)) ≡ true
          by true = or_right (q x) _ k
          by false = k

      either : (a b : Bool) → list_any q (filter p xs) ≡ a → list_any q (filter r xs) ≡ b → (a || b) ≡ true → (list_any q (filter p (x ∷ xs)) || list_any q (filter r (x ∷ xs))) ≡ true
      either true b e g k = or_left _ _ (in_first e)
      either false b e g k = or_right (list_any q (filter p (x ∷ xs))) _ (in_second (g ∙ k))

      here : (b c : Bool) → p x ≡ b → r x ≡ c → q x ≡ true → (b || c) ≡ true → (list_any q (cond b (x ∷ filter p xs) (filter p xs)) || list_any q (cond c (x ∷ filter r xs) (filter r xs))) ≡ true
      here true c e g k m = or_left _ _ (or_left _ _ k)
      here false true e g k m = or_right (list_any q (filter p xs)) _ (or_left _ _ k)
      here false false e g k m = cc

      by_test : (b : Bool) → q x ≡ b → (b || list_any q xs) ≡ true → (list_any q xs ≡ true → (list_any q (filter p xs) || list_any q (filter r xs)) ≡ true)
          → (list_any q (filter p (x ∷ xs)) || list_any q (filter r (x ∷ xs))) ≡ true
      by_test true e k others = here (p x) (r x) refl refl e (f x e)
      by_test false e k others = either (list_any q (filter p xs)) (list_any q (filter r xs)) refl refl (others k)
