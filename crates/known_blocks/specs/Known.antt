-- The blocks that are known, and the numbers that are given next: what can be asked, and what can happen to them.
-- (HDFS Architecture, "Data Replication"; no number is given twice, and the greatest of its type never.)
use Rattle.std.specs.Prelude.{ℕ, ◌==◌, ◌+◌, ◌-◌, Bool, false, nat_lt, List, [], ◌∷◌, length, filter, fold, if◌then◌else◌, Option, Some, None}
use Rattle.std.specs.BTreeMap.{insert_entry}
use Rattle.std.specs.Map.{remove_entry, keys_of}
use Rattle.std.specs.Ordering.{nat_cmp}
use Rattle.block_records.specs.Numbers.{is_number, entry_at}
use Rattle.block_records.specs.declared.block_record.BlockRecord.{BlockRecord}
use Rattle.block_records.specs.declared.fault.BlockRefusal.{BlockRefusal}
use Rattle.block_records.specs.declared.fault.BlockRefusal.TheVariants.{Spent}
use Rattle.block_records.specs.declared.fault.Counter.TheVariants.{BlockId, Stamp}
use Rattle.block_tables.specs.Changes.{with_record_changed, with_recovery, with_hand_outs, without_blocks}
use Rattle.recovery_queue.specs.declared.begun.BegunRecovery.{BegunRecovery}

pub record KnownBlocks : Type 0 where
  -- the numbers that are given next
  pub next_block : ℕ
  pub next_stamp : ℕ
  -- the blocks that were given and not deleted since, by their numbers
  pub blocks : List (ℕ × BlockRecord)

abbrev pub block_of : KnownBlocks → ℕ → Option BlockRecord
block_of known block = entry_at block known.blocks

-- ---- recoveries that run

-- the recovery of a block began longer ago than the retry limit, in milliseconds
abbrev pub is_due : ℕ → ℕ → Option ℕ → Bool
is_due retry now None = false
is_due retry now (Some since) = nat_lt retry (now - since)

abbrev pub is_due_by : ℕ → ℕ → Option BlockRecord → Bool
is_due_by retry now None = false
is_due_by retry now (Some own) = is_due retry now own.recovering

-- the blocks whose recovery did, by their numbers
abbrev pub due_blocks : KnownBlocks → ℕ → ℕ → List ℕ
due_blocks known retry now = keys_of (filter (λ entry. is_due retry now entry.1.recovering) known.blocks)

-- ---- refusals

-- the greatest number of the type is never given
abbrev pub is_spent : ℕ → Bool
is_spent next = next == 18446744073709551615

abbrev pub refused_new_stamp : KnownBlocks → Option BlockRefusal
refused_new_stamp known = if is_spent known.next_stamp then Some (Spent Stamp) else None

abbrev pub refused_new_block : KnownBlocks → Option BlockRefusal
refused_new_block known = if is_spent known.next_block then Some (Spent BlockId) else refused_new_stamp known

-- ---- recoveries that begin

-- of these blocks, each with the node that is to lead its recovery, those for which stamps are left, from this number on
abbrev pub with_stamps : ℕ → List (ℕ × ℕ) → List BegunRecovery
with_stamps next [] = []
with_stamps next (led ∷ more) = if is_spent next then [] else (record { block = led.0; stamp = next; primary = led.1 } ∷ with_stamps (next + 1) more)

-- ---- effects

-- a new block, which these nodes are to hold
abbrev pub new_record : ℕ → List ℕ → ℕ → BlockRecord
new_record stamp targets replication = record { stamp = stamp; committed = None; replication = replication; expected = targets; reports = []; recovering = None; handed_out = None }

abbrev pub with_new_block : KnownBlocks → List ℕ → ℕ → KnownBlocks
with_new_block known targets replication = record known {
  next_block = known.next_block + 1;
  next_stamp = known.next_stamp + 1;
  blocks = insert_entry nat_cmp known.blocks known.next_block (new_record known.next_stamp targets replication);
}

-- what is known of one block changes
abbrev pub with_block_changed : (BlockRecord → BlockRecord) → ℕ → KnownBlocks → KnownBlocks
with_block_changed change block known = record known { blocks = with_record_changed change block known.blocks }

abbrev pub without_block : KnownBlocks → ℕ → KnownBlocks
without_block known block = record known { blocks = remove_entry (is_number block) known.blocks }

abbrev pub without_each_block : KnownBlocks → List ℕ → KnownBlocks
without_each_block known blocks = record known { blocks = without_blocks known.blocks blocks }

-- a recovery of the block begins now, under the next stamp
abbrev pub with_next_recovery : KnownBlocks → ℕ → ℕ → KnownBlocks
with_next_recovery known block now = record known {
  next_stamp = known.next_stamp + 1;
  blocks = with_record_changed (with_recovery known.next_stamp now) block known.blocks;
}

-- recoveries of these blocks begin now, under the stamps that they have, which are the next ones
abbrev pub with_next_recoveries : KnownBlocks → List BegunRecovery → ℕ → KnownBlocks
with_next_recoveries known recoveries now = record known {
  next_stamp = known.next_stamp + length recoveries;
  blocks = fold (λ left own. with_record_changed (with_recovery own.stamp now) own.block left) known.blocks recoveries;
}

-- nodes were told now to copy these blocks
abbrev pub with_copies_told : KnownBlocks → List ℕ → ℕ → KnownBlocks
with_copies_told known blocks now = record known { blocks = with_hand_outs now known.blocks blocks }
