-- What is in a list.
use Rattle.std.proofs.Common.{inl, inr, List, [], ◌∷◌, ◌++◌, map, refl, ap}
use Rattle.std.specs.List.{AllByRecursion}
use Rattle.cluster_trace.specs.Provenance.{IsIn}
use Rattle.cluster_trace.proofs.Each.{each_more}

module _ {X : Type 0} where
  pub in_behind : (x : X) (front xs : List X) → IsIn x xs → IsIn x (front ++ xs)
  in_behind x [] xs i = i
  in_behind x (y ∷ front) xs i = inr (in_behind x front xs i)

  pub all_in : (xs : List X) → AllByRecursion (λ (x : X). IsIn x xs) xs
  all_in [] = tt
  all_in (x ∷ xs) = (inl refl, each_more (λ (y : X). IsIn y xs) (λ (y : X). IsIn y (x ∷ xs)) (λ y i. inr i) xs (all_in xs))

  pub each_both : (P Q R : X → Type 0) → ((x : X) → P x → Q x → R x) → (xs : List X) → AllByRecursion P xs → AllByRecursion Q xs → AllByRecursion R xs
  each_both P Q R f [] p q = tt
  each_both P Q R f (x ∷ xs) p q = (f x p.0 q.0, each_both P Q R f xs p.1 q.1)

pub in_map : {X Y : Type 0} (f : X → Y) (x : X) (xs : List X) → IsIn x xs → IsIn (f x) (map f xs)
in_map f x [] i = absurd i
in_map f x (y ∷ xs) (inl e) = inl (ap f e)
in_map f x (y ∷ xs) (inr i) = inr (in_map f x xs i)

-- what holds of each, of those that a function makes
pub each_of_map : {X Y : Type 0} (P : X → Type 0) (Q : Y → Type 0) (f : X → Y) → ((x : X) → P x → Q (f x)) → (xs : List X) → AllByRecursion P xs → AllByRecursion Q (map f xs)
each_of_map P Q f h [] p = tt
each_of_map P Q f h (x ∷ xs) p = (h x p.0, each_of_map P Q f h xs p.1)
