-- What is known of each block behind an effect.
use Rattle.std.proofs.Common.{◌≡◌, ℕ, Bool, true, false, List, [], ◌∷◌, Option, Some, None, refl, sym, ap, ◌∙◌, cond}
use Rattle.std.proofs.lemmas.Map.{lookup-remove_entry}
use Rattle.std.proofs.lemmas.Map.Keys.{IsDistinct-from_sorted}
use Rattle.std.specs.BTreeMap.{insert_entry}
use Rattle.std.specs.Cmp.{eq_by_cmp_equiv, nat_cmp_total, tied_itself}
use Rattle.std.specs.Map.{keys_of, remove_entry}
use Rattle.std.specs.Option.{option_map}
use Rattle.std.specs.Ordering.{nat_cmp, is_eq, match_ordering}
use Rattle.std.specs.declared.cmp.Ordering.{Ordering}
use Rattle.std.specs.declared.cmp.Ordering.TheVariants.{Less, Equal, Greater}
use Rattle.block_records.specs.Numbers.{is_number, entry_at}
use Rattle.block_records.specs.declared.block_record.BlockRecord.{BlockRecord}
use Rattle.block_records.proofs.Numbers.{number_is}
use Rattle.block_tables.specs.Changes.{with_record_changed, changed_by}
use Rattle.scarce_blocks.proofs.Stays.{put_at}
use Rattle.known_blocks.specs.Known.{KnownBlocks, block_of, with_new_block, new_record}
use Rattle.known_blocks.proofs.Behind.{same_entry}
use Rattle.block_effect_laws.proofs.Orders.{AreInOrder}

pub number_itself : (n : ℕ) → is_number n n ≡ true
number_itself n = ap is_eq (tied_itself nat_cmp_total n)

entry_put : (block : ℕ) (own : BlockRecord) (table : List (ℕ × BlockRecord)) → entry_at block (insert_entry nat_cmp table block own) ≡ Some own
entry_put block own [] = ap (λ b. cond b (Some own) None) (number_itself block)
entry_put block own (entry ∷ table) = by (nat_cmp block entry.0) refl (entry_put block own table)
  where
    by : (o : Ordering) → nat_cmp block entry.0 ≡ o → entry_at block (insert_entry nat_cmp table block own) ≡ Some own
        → entry_at block (match_ordering o ((block, own) ∷ entry ∷ table) ((entry.0, own) ∷ table) (entry ∷ insert_entry nat_cmp table block own)) ≡ Some own
    by Less is rest = ap (λ b. cond b (Some own) (entry_at block (entry ∷ table))) (number_itself block)
    by Equal is rest = ap (λ o. cond (is_eq o) (Some own) (entry_at block table)) is
    by Greater is rest = ap (λ o. cond (is_eq o) (Some entry.1) (entry_at block (insert_entry nat_cmp table block own))) is ∙ rest

turned : (a b : ℕ) → is_number a b ≡ false → is_number b a ≡ false
turned a b apart = by (is_number b a) refl
  where
    by : (x : Bool) → is_number b a ≡ x → x ≡ false
    by true is = sym (ap (is_number a) (number_is b a is) ∙ number_itself a) ∙ apart
    by false is = refl

-- a new block
pub added_at : (known : KnownBlocks) (targets : List ℕ) (replication q : ℕ)
    → block_of (with_new_block known targets replication) q ≡ cond (is_number known.next_block q) (Some (new_record known.next_stamp targets replication)) (block_of known q)
added_at known targets replication q = by (is_number known.next_block q) refl
  where
    own : BlockRecord
    own = new_record known.next_stamp targets replication

    by : (b : Bool) → is_number known.next_block q ≡ b → block_of (with_new_block known targets replication) q ≡ cond b (Some own) (block_of known q)
    by true is = ap (block_of (with_new_block known targets replication)) (sym (number_is known.next_block q is)) ∙ entry_put known.next_block own known.blocks
    by false apart = same_entry q known.next_block own (turned known.next_block q apart) known.blocks

-- one block's record changes
pub changed_at : (change : BlockRecord → BlockRecord) (block : ℕ) (table : List (ℕ × BlockRecord)) (q : ℕ)
    → entry_at q (with_record_changed change block table) ≡ cond (is_number block q) (option_map change (entry_at block table)) (entry_at q table)
changed_at change block table q = by (entry_at block table) refl
  where
    unknown : (b : Bool) → is_number block q ≡ b → entry_at block table ≡ None → entry_at q table ≡ cond b None (entry_at q table)
    unknown true is none = ap (λ n. entry_at n table) (sym (number_is block q is)) ∙ none
    unknown false is none = refl

    by : (found : Option BlockRecord) → entry_at block table ≡ found → entry_at q (changed_by change block found table) ≡ cond (is_number block q) (option_map change found) (entry_at q table)
    by None is = unknown (is_number block q) refl is
    by (Some own) is = put_at block q table own (change own) is

-- a block goes
pub removed_at : (block : ℕ) (table : List (ℕ × BlockRecord)) → AreInOrder table → (q : ℕ) → entry_at q (remove_entry (is_number block) table) ≡ cond (is_number block q) None (entry_at q table)
removed_at block table up q =
    lookup-remove_entry (eq_by_cmp_equiv nat_cmp_total) (is_number block) (λ x y at. ap (λ n. is_number n y) (number_is block x at)) q table (IsDistinct-from_sorted nat_cmp (keys_of table) up)
