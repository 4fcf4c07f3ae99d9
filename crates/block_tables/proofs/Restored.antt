-- A block that was put in is taken out again.
use Rattle.std.proofs.Common.{◌≡◌, ℕ, List, [], ◌∷◌, Some, None, refl, ap, ◌∙◌, cond}
use Rattle.std.specs.BTreeMap.{insert_entry}
use Rattle.std.specs.Cmp.{nat_cmp_total, tied_itself}
use Rattle.std.specs.Map.{remove_entry}
use Rattle.std.specs.Ordering.{nat_cmp, is_eq, match_ordering}
use Rattle.std.specs.declared.cmp.Ordering.{Ordering}
use Rattle.std.specs.declared.cmp.Ordering.TheVariants.{Less, Equal, Greater}
use Rattle.block_records.specs.Numbers.{is_number, entry_at}
use Rattle.block_records.specs.declared.block_record.BlockRecord.{BlockRecord}

pub taken_out : (block : ℕ) (own : BlockRecord) (table : List (ℕ × BlockRecord)) → entry_at block table ≡ None → remove_entry (is_number block) (insert_entry nat_cmp table block own) ≡ table
taken_out block own [] unknown = ap (λ o. cond (is_eq o) [] ((block, own) ∷ [])) (tied_itself nat_cmp_total block)
taken_out block own (entry ∷ table) unknown = by (nat_cmp block entry.0) refl unknown (taken_out block own table)
  where
    by : (o : Ordering) → nat_cmp block entry.0 ≡ o → cond (is_eq o) (Some entry.1) (entry_at block table) ≡ None → (entry_at block table ≡ None → remove_entry (is_number block) (insert_entry nat_cmp table block own) ≡ table)
        → remove_entry (is_number block) (match_ordering o ((block, own) ∷ entry ∷ table) ((entry.0, own) ∷ table) (entry ∷ insert_entry nat_cmp table block own)) ≡ (entry ∷ table)
    by Less is none rest = ap (λ o. cond (is_eq o) (entry ∷ table) ((block, own) ∷ remove_entry (is_number block) (entry ∷ table))) (tied_itself nat_cmp_total block)
    by Equal is none rest = let no : Some entry.1 ≡ None = none in cc
    by Greater is none rest =
        ap (λ o. cond (is_eq o) (insert_entry nat_cmp table block own) (entry ∷ remove_entry (is_number block) (insert_entry nat_cmp table block own))) is ∙ ap (λ l. entry ∷ l) (rest none)
