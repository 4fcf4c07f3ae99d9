-- The index has for a node the blocks that it holds, in order.
use Rattle.std.proofs.Common.{◌≡◌, ◌≤◌, ℕ, Bool, true, false, ◌||◌, List, [], ◌∷◌, filter, Option, Some, None, refl, sym, ap, ◌∙◌, cond, length, arith}
use Rattle.std.proofs.lemmas.List.Sums.{length-filter, count_by-le-length}
use Rattle.std.proofs.lemmas.Map.Entries.{lookup-filter-values, option_filter, length-keys_of}
use Rattle.std.proofs.lemmas.Map.Keys.{IsDistinct-from_sorted}
use Rattle.std.specs.Cmp.{eq_by_cmp_equiv, nat_cmp_total}
use Rattle.std.specs.List.{list_any}
use Rattle.std.specs.List.Sorted.{IsStrictlySortedBy}
use Rattle.std.specs.Map.{keys_of}
use Rattle.std.specs.Option.{is_some}
use Rattle.std.specs.Ordering.{nat_cmp}
use Rattle.block_records.specs.Numbers.{is_number, entry_at}
use Rattle.block_records.specs.Verdicts.{holds_by}
use Rattle.block_records.specs.declared.block_record.BlockRecord.{BlockRecord}
use Rattle.block_records.proofs.Ascending.{same_ascending, kept_ascending}
use Rattle.block_index.specs.Relation.{blocks_at}
use Rattle.block_tables.specs.Kept.{IsIndexed, blocks_on}

-- a number is among the keys where the table has something at it
pub has_entry : {X : Type 0} (q : ℕ) (table : List (ℕ × X)) → list_any (is_number q) (keys_of table) ≡ is_some (entry_at q table)
has_entry q [] = refl
has_entry {X} q (entry ∷ table) = by (is_number q entry.0) (has_entry q table)
  where
    by : (b : Bool) → list_any (is_number q) (keys_of table) ≡ is_some (entry_at q table) → (b || list_any (is_number q) (keys_of table)) ≡ is_some (cond b (Some entry.1) (entry_at q table))
    by true rest = refl
    by false rest = rest

held_by : (node : ℕ) (found : Option BlockRecord) → is_some (option_filter (λ own. holds_by node (Some own)) found) ≡ holds_by node found
held_by node None = refl
held_by node (Some own) = by (holds_by node (Some own))
  where
    by : (b : Bool) → is_some (cond b (Some own) None) ≡ b
    by true = refl
    by false = refl

pub held_blocks : (table : List (ℕ × BlockRecord)) (index : List (ℕ × List ℕ)) (node : ℕ) → IsIndexed table index
    → IsStrictlySortedBy nat_cmp (keys_of table) → IsStrictlySortedBy nat_cmp (blocks_at index node) → blocks_at index node ≡ blocks_on table node
held_blocks table index node law up own =
    same_ascending (blocks_at index node) (blocks_on table node) own (kept_ascending (λ entry. holds_by node (Some entry.1)) table up)
    (λ q. law node q ∙ sym (has_entry q (filter (λ entry. holds_by node (Some entry.1)) table)
    ∙ (ap is_some (lookup-filter-values (eq_by_cmp_equiv nat_cmp_total) (λ own. holds_by node (Some own)) q table (IsDistinct-from_sorted nat_cmp (keys_of table) up))
    ∙ held_by node (entry_at q table))))

pub few_held : (table : List (ℕ × BlockRecord)) (node : ℕ) → length (blocks_on table node) ≤ length table
few_held table node =
    omega (arith, length-keys_of (filter (λ entry. holds_by node (Some entry.1)) table), length-filter (λ (entry : ℕ × BlockRecord). holds_by node (Some entry.1)) table, count_by-le-length (λ (entry : ℕ × BlockRecord). holds_by node (Some entry.1)) table)

pub has_block : (table : List (ℕ × BlockRecord)) (node q : ℕ) → IsStrictlySortedBy nat_cmp (keys_of table) → list_any (is_number q) (blocks_on table node) ≡ holds_by node (entry_at q table)
has_block table node q up =
    has_entry q (filter (λ entry. holds_by node (Some entry.1)) table)
    ∙ (ap is_some (lookup-filter-values (eq_by_cmp_equiv nat_cmp_total) (λ own. holds_by node (Some own)) q table (IsDistinct-from_sorted nat_cmp (keys_of table) up))
    ∙ held_by node (entry_at q table))
