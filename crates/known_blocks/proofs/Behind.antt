-- The length of a block is committed behind a new block as before it.
use Rattle.std.proofs.Common.{◌≡◌, ◌<◌, ℕ, Bool, true, false, List, [], ◌∷◌, Option, Some, None, refl, sym, ap, ◌∙◌, cond, arith}
use Rattle.std.specs.BTreeMap.{insert_entry}
use Rattle.std.specs.Map.{set_value}
use Rattle.std.specs.Option.{is_some}
use Rattle.std.specs.Ordering.{nat_cmp, is_eq, match_ordering}
use Rattle.std.specs.declared.cmp.Ordering.{Ordering}
use Rattle.std.specs.declared.cmp.Ordering.TheVariants.{Less, Equal, Greater}
use Rattle.block_records.specs.Numbers.{is_number, entry_at}
use Rattle.block_records.specs.declared.block_record.BlockRecord.{BlockRecord}
use Rattle.block_records.proofs.Numbers.{number_is}
use Rattle.block_tables.specs.Changes.{with_record_changed, changed_by}
use Rattle.known_blocks.specs.Kept.{AreBelow}
use Rattle.known_blocks.specs.Known.{KnownBlocks, block_of, with_block_changed, with_new_block, new_record}

-- the next number is another than that of a block that is known
pub is_another : (block next : ℕ) (table : List (ℕ × BlockRecord)) → AreBelow table next → is_some (entry_at block table) ≡ true → is_number block next ≡ false
is_another block next table below there = by (is_number block next) refl
  where
    by : (b : Bool) → is_number block next ≡ b → b ≡ false
    by true is = let less : block < next = below block there in let same : block ≡ next = number_is block next is in absurd (omega (arith, less, same))
    by false is = refl

module _ (block next : ℕ) (own : BlockRecord) (another : is_number block next ≡ false) where
  -- a key as the next number is another one too
  as_next : (key : ℕ) → nat_cmp next key ≡ Equal → is_number block key ≡ false
  as_next key same = ap (is_number block) (sym (number_is next key (ap is_eq same))) ∙ another

  pub same_entry : (table : List (ℕ × BlockRecord)) → entry_at block (insert_entry nat_cmp table next own) ≡ entry_at block table
  same_entry [] = ap (λ b. cond b (Some own) None) another
  same_entry (entry ∷ table) = by (nat_cmp next entry.0) refl (same_entry table)
    where
      by : (o : Ordering) → nat_cmp next entry.0 ≡ o → entry_at block (insert_entry nat_cmp table next own) ≡ entry_at block table
          → entry_at block (match_ordering o ((next, own) ∷ entry ∷ table) ((entry.0, own) ∷ table) (entry ∷ insert_entry nat_cmp table next own)) ≡ entry_at block (entry ∷ table)
      by Less is rest = ap (λ b. cond b (Some own) (entry_at block (entry ∷ table))) another
      by Equal is rest = ap (λ b. cond b (Some own) (entry_at block table)) (as_next entry.0 is) ∙ sym (ap (λ b. cond b (Some entry.1) (entry_at block table)) (as_next entry.0 is))
      by Greater is rest = ap (cond (is_number block entry.0) (Some entry.1)) rest

  set_behind : (new : BlockRecord) (table : List (ℕ × BlockRecord)) → set_value (is_number block) (insert_entry nat_cmp table next own) new ≡ insert_entry nat_cmp (set_value (is_number block) table new) next own
  set_behind new [] = ap (λ b. cond b ((next, new) ∷ []) ((next, own) ∷ [])) another
  set_behind new (entry ∷ table) = by (nat_cmp next entry.0) refl (set_behind new table)
    where
      rest : List (ℕ × BlockRecord)
      rest = set_value (is_number block) table new

      put : List (ℕ × BlockRecord)
      put = insert_entry nat_cmp table next own

      -- the entry may be that of the block
      first : (b : Bool) → nat_cmp next entry.0 ≡ Less → ((next, own) ∷ cond b ((entry.0, new) ∷ table) (entry ∷ rest)) ≡ insert_entry nat_cmp (cond b ((entry.0, new) ∷ table) (entry ∷ rest)) next own
      first true is = sym (ap (λ o. match_ordering o ((next, own) ∷ (entry.0, new) ∷ table) ((entry.0, own) ∷ table) ((entry.0, new) ∷ insert_entry nat_cmp table next own)) is)
      first false is = sym (ap (λ o. match_ordering o ((next, own) ∷ entry ∷ rest) ((entry.0, own) ∷ rest) (entry ∷ insert_entry nat_cmp rest next own)) is)

      later : (b : Bool) → nat_cmp next entry.0 ≡ Greater → set_value (is_number block) put new ≡ insert_entry nat_cmp rest next own
          → cond b ((entry.0, new) ∷ put) (entry ∷ set_value (is_number block) put new) ≡ insert_entry nat_cmp (cond b ((entry.0, new) ∷ table) (entry ∷ rest)) next own
      later true is more = sym (ap (λ o. match_ordering o ((next, own) ∷ (entry.0, new) ∷ table) ((entry.0, own) ∷ table) ((entry.0, new) ∷ insert_entry nat_cmp table next own)) is)
      later false is more = ap (λ l. entry ∷ l) more ∙ sym (ap (λ o. match_ordering o ((next, own) ∷ entry ∷ rest) ((entry.0, own) ∷ rest) (entry ∷ insert_entry nat_cmp rest next own)) is)

      by : (o : Ordering) → nat_cmp next entry.0 ≡ o → set_value (is_number block) put new ≡ insert_entry nat_cmp rest next own
          → set_value (is_number block) (match_ordering o ((next, own) ∷ entry ∷ table) ((entry.0, own) ∷ table) (entry ∷ put)) new
          ≡ insert_entry nat_cmp (set_value (is_number block) (entry ∷ table) new) next own
      by Less is more =
          ap (λ b. cond b ((next, new) ∷ entry ∷ table) ((next, own) ∷ set_value (is_number block) (entry ∷ table) new)) another ∙ first (is_number block entry.0) is
      by Equal is more =
          ap (λ b. cond b ((entry.0, new) ∷ table) ((entry.0, own) ∷ rest)) (as_next entry.0 is)
          ∙ (sym (ap (λ o. match_ordering o ((next, own) ∷ entry ∷ rest) ((entry.0, own) ∷ rest) (entry ∷ insert_entry nat_cmp rest next own)) is)
          ∙ sym (ap (λ b. insert_entry nat_cmp (cond b ((entry.0, new) ∷ table) (entry ∷ rest)) next own) (as_next entry.0 is)))
      by Greater is more = later (is_number block entry.0) is more

  pub changed_behind : (change : BlockRecord → BlockRecord) (table : List (ℕ × BlockRecord)) → with_record_changed change block (insert_entry nat_cmp table next own) ≡ insert_entry nat_cmp (with_record_changed change block table) next own
  changed_behind change table = ap (λ found. changed_by change block found (insert_entry nat_cmp table next own)) (same_entry table) ∙ by (entry_at block table)
    where
      by : (found : Option BlockRecord) → changed_by change block found (insert_entry nat_cmp table next own) ≡ insert_entry nat_cmp (changed_by change block found table) next own
      by None = refl
      by (Some old) = set_behind (change old) table

-- ---- the same of all that is known

module _ (known : KnownBlocks) (block : ℕ) (below : AreBelow known.blocks known.next_block) (there : is_some (block_of known block) ≡ true) (targets : List ℕ) (replication : ℕ) where
  pub same_block : block_of (with_new_block known targets replication) block ≡ block_of known block
  same_block = same_entry block known.next_block (new_record known.next_stamp targets replication) (is_another block known.next_block known.blocks below there) known.blocks

  pub altered_behind : (change : BlockRecord → BlockRecord) → with_block_changed change block (with_new_block known targets replication) ≡ with_new_block (with_block_changed change block known) targets replication
  altered_behind change =
      ap (λ blocks. record (with_new_block known targets replication) { blocks = blocks })
      (changed_behind block known.next_block (new_record known.next_stamp targets replication) (is_another block known.next_block known.blocks below there) change known.blocks)
