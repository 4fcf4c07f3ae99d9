-- What holds of each element of a list.
use Rattle.std.proofs.Common.{◌≡◌, ℕ, zero, suc, Bool, true, false, inl, inr, List, [], ◌∷◌, ◌++◌, map, sym, subst, cond, Some, None}
use Rattle.std.specs.Prelude.{slice_get}
use Rattle.std.specs.List.{AllByRecursion}
use Rattle.std.specs.Map.{set_value}
use Rattle.std.specs.BTreeMap.{insert_entry}
use Rattle.std.specs.Ordering.{nat_cmp, match_ordering}
use Rattle.std.specs.declared.cmp.Ordering.{Ordering}
use Rattle.std.specs.declared.cmp.Ordering.TheVariants.{Less, Equal, Greater}
use Rattle.block_records.specs.Numbers.{is_number, entry_at}
use Rattle.cluster_trace.specs.Provenance.{IsIn}

pub some_is : {X : Type 0} (x y : X) → Some x ≡ Some y → x ≡ y
some_is x y e = cc

pub never_some : {X : Type 0} (x : X) → None ≡ Some x → ⊥
never_some x e = cc

module _ {X : Type 0} where
  pub each_append : (P : X → Type 0) (xs ys : List X) → AllByRecursion P xs → AllByRecursion P ys → AllByRecursion P (xs ++ ys)
  each_append P [] ys p q = q
  each_append P (x ∷ xs) ys p q = (p.0, each_append P xs ys p.1 q)

  pub each_more : (P Q : X → Type 0) → ((x : X) → P x → Q x) → (xs : List X) → AllByRecursion P xs → AllByRecursion Q xs
  each_more P Q f [] p = tt
  each_more P Q f (x ∷ xs) p = (f x p.0, each_more P Q f xs p.1)

  pub each_in : (P : X → Type 0) (xs : List X) (x : X) → AllByRecursion P xs → IsIn x xs → P x
  each_in P [] x p i = absurd i
  each_in P (y ∷ ys) x p (inl e) = subst P (sym e) p.0
  each_in P (y ∷ ys) x p (inr i) = each_in P ys x p.1 i

  pub each_get : (P : X → Type 0) (xs : List X) (i : ℕ) (x : X) → AllByRecursion P xs → slice_get xs i ≡ Some x → P x
  each_get P [] i x p h = absurd (never_some x h)
  each_get P (y ∷ ys) zero x p h = subst P (some_is y x h) p.0
  each_get P (y ∷ ys) (suc i) x p h = each_get P ys i x p.1 h

  pub in_append : (x : X) (xs ys : List X) → IsIn x xs → IsIn x (xs ++ ys)
  in_append x [] ys i = absurd i
  in_append x (y ∷ xs) ys (inl e) = inl e
  in_append x (y ∷ xs) ys (inr i) = inr (in_append x xs ys i)

pub each_map : {X Y : Type 0} (P : Y → Type 0) (f : X → Y) → ((x : X) → P (f x)) → (xs : List X) → AllByRecursion P (map f xs)
each_map P f h [] = tt
each_map P f h (x ∷ xs) = (h x, each_map P f h xs)

-- ---- tables

module _ {X : Type 0} (P : X → Type 0) where
  -- what holds of each value of a table
  abbrev pub AllValues : List (ℕ × X) → Type 0
  AllValues table = AllByRecursion (λ (entry : ℕ × X). P entry.1) table

  pub values_at : (table : List (ℕ × X)) (number : ℕ) (x : X) → AllValues table → entry_at number table ≡ Some x → P x
  values_at [] number x all h = absurd (never_some x h)
  values_at (e ∷ table) number x all h = by (is_number number e.0) h (values_at table number x all.1)
    where
      by : (b : Bool) → cond b (Some e.1) (entry_at number table) ≡ Some x → (entry_at number table ≡ Some x → P x) → P x
      by true h rest = subst P (some_is e.1 x h) all.0
      by false h rest = rest h

  pub values_set : (table : List (ℕ × X)) (number : ℕ) (x : X) → AllValues table → P x → AllValues (set_value (is_number number) table x)
  values_set [] number x all new = all
  values_set (e ∷ table) number x all new = by (is_number number e.0) (values_set table number x all.1 new)
    where
      by : (b : Bool) → AllValues (set_value (is_number number) table x) → AllValues (cond b ((e.0, x) ∷ table) (e ∷ set_value (is_number number) table x))
      by true rest = (new, all.1)
      by false rest = (all.0, rest)

  pub values_inserted : (table : List (ℕ × X)) (number : ℕ) (x : X) → AllValues table → P x → AllValues (insert_entry nat_cmp table number x)
  values_inserted [] number x all new = (new, tt)
  values_inserted (e ∷ table) number x all new = by (nat_cmp number e.0) (values_inserted table number x all.1 new)
    where
      by : (o : Ordering) → AllValues (insert_entry nat_cmp table number x)
          → AllValues (match_ordering o ((number, x) ∷ e ∷ table) ((e.0, x) ∷ table) (e ∷ insert_entry nat_cmp table number x))
      by Less rest = (new, all)
      by Equal rest = (new, all.1)
      by Greater rest = (all.0, rest)
