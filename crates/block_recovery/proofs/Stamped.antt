-- A table by ascending stamps in a vector: its last stamp, and what is left where the value at a place was changed.
use Rattle.std.proofs.Common.{◌≡◌, ◌<◌, ◌-◌, ℕ, zero, suc, max, length, get_or, set, slice_get, fold, List, [], ◌∷◌, Some, Result, Ok, Err, OnOk, refl, sym, ap, ◌∙◌, subst, cond, arith}
use Rattle.std.proofs.lemmas.Map.Keys.{sorted_head, sorted_tail}
use Rattle.std.specs.Cmp.{ranks}
use Rattle.std.specs.List.{reduce}
use Rattle.std.specs.List.Sorted.{IsStrictlySortedBy}
use Rattle.std.specs.Map.{keys_of, set_value}
use Rattle.std.specs.Option.{option_map}
use Rattle.std.specs.Ordering.{is_eq, nat_cmp, MatchOrdering}
use Rattle.std.specs.declared.cmp.Ordering.TheVariants.{Less}
use Rattle.block_records.specs.Numbers.{is_number, entry_at}
use Rattle.block_records.specs.Places.{IsPlace}
use Rattle.block_records.proofs.Standing.{IsOrdered, entry_there}
use Rattle.block_recovery.specs.Plans.{altered_by, with_entry_changed}

below : (a b : ℕ) → nat_cmp a b ≡ Less → max a b ≡ b
below a b less =
    let lt : a < b = subst (λ o. MatchOrdering o (a < b) (a ≡ b) (b < a)) less (ranks a b) in
    omega (arith, lt)

module _ {X : Type 0} where
  climbs : (e : ℕ × X) (table : List (ℕ × X)) → IsOrdered (e ∷ table) → Some (fold max e.0 (keys_of table)) ≡ option_map (λ own. own.0) (slice_get (e ∷ table) (length table))
  climbs e [] up = refl
  climbs e (f ∷ table) up =
      ap (λ n. Some (fold max n (keys_of table))) (below e.0 f.0 (sorted_head nat_cmp e.0 (keys_of (f ∷ table)) up).0) ∙ climbs f table (sorted_tail nat_cmp e.0 (keys_of (f ∷ table)) up)

  -- the last stamp is the greatest
  pub last_greatest : (table : List (ℕ × X)) → IsOrdered table → reduce max (keys_of table) ≡ option_map (λ own. own.0) (slice_get table (length table - 1))
  last_greatest [] up = refl
  last_greatest (e ∷ table) up =
      let last : length table ≡ suc (length table) - 1 = omega arith in
      climbs e table up ∙ ap (λ at. option_map (λ own. own.0) (slice_get (e ∷ table) at)) last

  set_value_there : (k : ℕ) (table : List (ℕ × X)) (at : ℕ) (e : ℕ × X) (w : X) → IsPlace k table at → e ≡ get_or table at e → set table at (e.0, w) ≡ set_value (is_number k) table w
  set_value_there k [] at e w there is = absurd there
  set_value_there k (x ∷ xs) zero e w there is =
      ap (λ own. (own.0, w) ∷ xs) is ∙ sym (ap (λ o. cond (is_eq o) ((x.0, w) ∷ xs) (x ∷ set_value (is_number k) xs w)) there)
  set_value_there k (x ∷ xs) (suc at) e w there is =
      ap (λ left. x ∷ left) (set_value_there k xs at e w there.1 is) ∙ sym (ap (λ o. cond (is_eq o) ((x.0, w) ∷ xs) (x ∷ set_value (is_number k) xs w)) there.0)

  same_keys : (table : List (ℕ × X)) (at : ℕ) (e : ℕ × X) (w : X) → e ≡ get_or table at e → keys_of (set table at (e.0, w)) ≡ keys_of table
  same_keys [] at e w is = refl
  same_keys (x ∷ xs) zero e w is = ap (λ own. own.0 ∷ keys_of xs) is
  same_keys (x ∷ xs) (suc at) e w is = ap (λ keys. x.0 ∷ keys) (same_keys xs at e w is)

  -- the stamps stay in order
  pub still_ordered : (table : List (ℕ × X)) (at : ℕ) (e : ℕ × X) (w : X) → e ≡ get_or table at e → IsOrdered table → IsOrdered (set table at (e.0, w))
  still_ordered table at e w is up = subst (λ (keys : List ℕ). IsStrictlySortedBy nat_cmp keys) (sym (same_keys table at e w is)) up

  -- what stands there is what is looked up
  pub stands : (k : ℕ) (table now : List (ℕ × X)) (at : ℕ) (e : ℕ × X) → IsPlace k table at → e ≡ get_or table at e → table ≡ now → Some e.1 ≡ entry_at k now
  stands k table now at e there is seen = ap (λ own. Some own.1) is ∙ (sym (entry_there k table at e there) ∙ ap (entry_at k) seen)

  pub changed : {A E : Type 0} (r : Result A E) (change : X → X) (k : ℕ) (table now : List (ℕ × X)) (at : ℕ) (e : ℕ × X) (new : X) → IsPlace k table at → e ≡ get_or table at e → table ≡ now
      → OnOk r (new ≡ change e.1) → OnOk r (set table at (e.0, new) ≡ with_entry_changed change k now)
  changed (Err fault) change k table now at e new there is seen h = tt
  changed (Ok a) change k table now at e new there is seen h =
      set_value_there k table at e new there is
      ∙ (ap (set_value (is_number k) table) h ∙ (ap (λ found. altered_by change k found table) (stands k table table at e there is refl) ∙ ap (with_entry_changed change k) seen))
