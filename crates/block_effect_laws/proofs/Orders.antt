-- Keys in their order, behind a change of a table.
use Rattle.std.proofs.Common.{◌≡◌, ℕ, Bool, true, false, List, [], ◌∷◌, Option, Some, None, refl, sym, ap, ◌∙◌, subst, cond}
use Rattle.std.proofs.lemmas.Map.{keys-set_value}
use Rattle.std.proofs.lemmas.Map.Keys.{sorted_head, sorted_tail}
use Rattle.std.specs.BTreeMap.{insert_entry}
use Rattle.std.specs.Cmp.{nat_cmp_total}
use Rattle.std.specs.List.Sorted.{IsStrictlySortedBy}
use Rattle.std.specs.Map.{keys_of, remove_entry}
use Rattle.std.specs.Ordering.{nat_cmp, match_ordering, ordering_reverse}
use Rattle.std.specs.declared.cmp.Ordering.{Ordering}
use Rattle.std.specs.declared.cmp.Ordering.TheVariants.{Less, Equal, Greater}
use Rattle.block_records.specs.Numbers.{is_number, entry_at}
use Rattle.block_records.specs.declared.block_record.BlockRecord.{BlockRecord}
use Rattle.block_records.proofs.Ascending.{AreAbove, above_lower}
use Rattle.block_tables.specs.Changes.{with_record_changed, changed_by}

abbrev pub AreInOrder : {X : Type 0} → List (ℕ × X) → Type 0
AreInOrder table = IsStrictlySortedBy nat_cmp (keys_of table)

flipped : (x y : ℕ) → nat_cmp x y ≡ Greater → nat_cmp y x ≡ Less
flipped x y greater = nat_cmp_total.antisymm y x ∙ ap ordering_reverse greater

module _ {X : Type 0} (key : ℕ) (value : X) where
  above_put : (low : ℕ) (table : List (ℕ × X)) → nat_cmp low key ≡ Less → AreAbove low (keys_of table) → AreAbove low (keys_of (insert_entry nat_cmp table key value))
  above_put low [] less above = (less, tt)
  above_put low (entry ∷ table) less above = by (nat_cmp key entry.0) (above_put low table less above.1)
    where
      by : (o : Ordering) → AreAbove low (keys_of (insert_entry nat_cmp table key value))
          → AreAbove low (keys_of (match_ordering o ((key, value) ∷ entry ∷ table) ((entry.0, value) ∷ table) (entry ∷ insert_entry nat_cmp table key value)))
      by Less rest = (less, above)
      by Equal rest = above
      by Greater rest = (above.0, rest)

  pub put_in_order : (table : List (ℕ × X)) → AreInOrder table → AreInOrder (insert_entry nat_cmp table key value)
  unfolding IsStrictlySortedBy
  put_in_order [] up = (tt, tt)
  put_in_order (entry ∷ table) up = by (nat_cmp key entry.0) refl (put_in_order table (sorted_tail nat_cmp entry.0 (keys_of table) up))
    where
      by : (o : Ordering) → nat_cmp key entry.0 ≡ o → AreInOrder (insert_entry nat_cmp table key value)
          → AreInOrder (match_ordering o ((key, value) ∷ entry ∷ table) ((entry.0, value) ∷ table) (entry ∷ insert_entry nat_cmp table key value))
      by Less is rest = ((is, above_lower key entry.0 (keys_of table) is (sorted_head nat_cmp entry.0 (keys_of table) up)), up)
      by Equal is rest = up
      by Greater is rest = (above_put entry.0 table (flipped key entry.0 is) (sorted_head nat_cmp entry.0 (keys_of table) up), rest)

module _ {X : Type 0} (test : ℕ → Bool) where
  above_taken : (low : ℕ) (table : List (ℕ × X)) → AreAbove low (keys_of table) → AreAbove low (keys_of (remove_entry test table))
  above_taken low [] above = above
  above_taken low (entry ∷ table) above = by (test entry.0) (above_taken low table above.1)
    where
      by : (b : Bool) → AreAbove low (keys_of (remove_entry test table)) → AreAbove low (keys_of (cond b table (entry ∷ remove_entry test table)))
      by true rest = above.1
      by false rest = (above.0, rest)

  pub taken_in_order : (table : List (ℕ × X)) → AreInOrder table → AreInOrder (remove_entry test table)
  unfolding IsStrictlySortedBy
  taken_in_order [] up = up
  taken_in_order (entry ∷ table) up = by (test entry.0) (taken_in_order table (sorted_tail nat_cmp entry.0 (keys_of table) up))
    where
      by : (b : Bool) → AreInOrder (remove_entry test table) → AreInOrder (cond b table (entry ∷ remove_entry test table))
      by true rest = sorted_tail nat_cmp entry.0 (keys_of table) up
      by false rest = (above_taken entry.0 table (sorted_head nat_cmp entry.0 (keys_of table) up), rest)

pub changed_in_order : (change : BlockRecord → BlockRecord) (block : ℕ) (table : List (ℕ × BlockRecord)) → AreInOrder table → AreInOrder (with_record_changed change block table)
changed_in_order change block table up = by (entry_at block table)
  where
    by : (found : Option BlockRecord) → AreInOrder (changed_by change block found table)
    by None = up
    by (Some own) = subst (λ keys. IsStrictlySortedBy nat_cmp keys) (sym (keys-set_value (is_number block) table (change own))) up
