-- What requests for blocks leave, and what they enter into the ledger.
use Rattle.std.proofs.Common.{◌≡◌, ℕ, true, false, List, [], ◌∷◌, ◌++◌, map, Option, Some, refl, sym, ap, ◌∙◌}
use Rattle.std.specs.List.{filter_map}
use Rattle.std.proofs.lemmas.List.{append-nil}
use Rattle.std.proofs.lemmas.Simd.{map-map}
use Rattle.hdfs_types.specs.declared.op.Op.{Op}
use Rattle.hdfs_types.specs.declared.op.Op.TheVariants as op
use Rattle.hdfs_types.specs.declared.reply.Reply.{Reply}
use Rattle.hdfs_types.specs.declared.reply.Reply.TheVariants as reply
use Rattle.block_records.specs.declared.last_block.LastBlock.{LastBlock}
use Rattle.block_tokens.specs.Ring.{KeyRing}
use Rattle.block_changes.specs.declared.behind.NewBlock.{NewBlock}
use Rattle.block_map.specs.BlockFacts.{Blocks}
use Rattle.block_map.specs.BlockEffects.{added_behind}
use Rattle.grant_ledger.specs.declared.ledger.LedgerRow.{LedgerRow}
use Rattle.namespace_rows.specs.declared.row.Row.{Row}
use Rattle.file_blocks.specs.declared.blocks.FileBlock.{FileBlock}
use Rattle.namespace_rows.specs.Rows.{row_at}
use Rattle.flat_rows.specs.declared.verdict.Verdict.{Verdict}
use Rattle.flat_rows.specs.declared.verdict.Verdict.TheVariants.{Done, Denied, Refused}
use Rattle.flat_rows.specs.BlockOutcome.{replication_at, added_reply, located_block, opened_reply, with_block_at}
use Rattle.flat_rows.specs.Outcome.{step}
use Rattle.flat_rows.specs.Verdicts.{is_done}
use Rattle.history.specs.Blocks.{file_extended}
use Rattle.history.specs.Grants.{rows_granted}
use Rattle.node_commands.specs.Granted.{tokens_of}
use Rattle.block_grants.specs.Granted.{writer_row, reader_row}
use Rattle.write_rules.specs.JudgedBlocks.{IsNext}
use Rattle.file_effects.specs.Effected.{IsExact}
use Rattle.namesystem.specs.declared.namesystem.Namesystem.{Namesystem}
use Rattle.namesystem.specs.Performed.{IsPerformed, facts_in}
use Rattle.namesystem.proofs.Performing.{changing, undone_same, performed_done}

-- what isn't done grants nothing
pub nothing_granted : (place : ℕ) (ring : KeyRing) (now : ℕ) (caller : List ℕ) (what : Op) (verdict : Verdict) (ledger : List LedgerRow) → is_done verdict ≡ false → ledger ≡ ledger ++ rows_granted place ring now caller what verdict
nothing_granted place ring now caller what (Done told) ledger h = cc
nothing_granted place ring now caller what (Denied denial) ledger h = sym (append-nil ledger)
nothing_granted place ring now caller what (Refused refusal) ledger h = sym (append-nil ledger)

-- ---- a new block

module _ (last : List ℕ → Option ℕ) (now : ℕ) (caller : List ℕ) (path : List (List ℕ)) (stated : Option LastBlock) (old : Namesystem) (new : NewBlock) (replication : ℕ) (next : IsNext old.blocks now stated new replication)
    (at : replication_at (row_at path old.tree) ≡ Some replication) where
  pub performed_block : (left : List Row) (blocks : Blocks) (verdict : Verdict)
      → Done (added_reply (facts_in last now old).token caller new) ≡ (step (facts_in last now old) old.tree old.users caller (op.AddBlock path stated)).verdict
      → verdict ≡ Done (added_reply (tokens_of old.ring now) caller new) → left ≡ with_block_at path stated new.block old.tree → blocks ≡ added_behind old.blocks stated now replication
      → IsExact last left old.writers → IsPerformed last now caller (op.AddBlock path stated) old verdict (record old { tree = left; blocks = blocks })
  performed_block left blocks verdict judged told made known exact =
      performed_done last now caller (op.AddBlock path stated) old (record old { tree = left; blocks = blocks }) verdict (told ∙ judged) (ap is_done told) refl refl
      (made ∙ ap (λ (n : NewBlock). with_block_at path stated n.block old.tree) next.given) refl refl (known ∙ ap (λ r. file_extended stated now r old.blocks) (sym at)) exact
      (changing old (record old { tree = left; blocks = blocks }) verdict (Done (added_reply (tokens_of old.ring now) caller new)) told refl)

pub block_rows : (place : ℕ) (ring : KeyRing) (now : ℕ) (caller : List ℕ) (path : List (List ℕ)) (stated : Option LastBlock) (new : NewBlock) (verdict : Verdict) (ledger left : List LedgerRow)
    → verdict ≡ Done (added_reply (tokens_of ring now) caller new) → left ≡ ledger ++ writer_row place ring now caller new.block ∷ [] → left ≡ ledger ++ rows_granted place ring now caller (op.AddBlock path stated) verdict
block_rows place ring now caller path stated new verdict ledger left told entered = entered ∙ ap (λ v. ledger ++ rows_granted place ring now caller (op.AddBlock path stated) v) (sym told)

-- ---- a file to be read

module _ (last : List ℕ → Option ℕ) (now : ℕ) (caller : List ℕ) (path : List (List ℕ)) (old : Namesystem) (own : List FileBlock) where
  pub performed_open : (verdict : Verdict) → Done (opened_reply (facts_in last now old).token caller old.blocks own) ≡ (step (facts_in last now old) old.tree old.users caller (op.Open path)).verdict
      → verdict ≡ Done (opened_reply (tokens_of old.ring now) caller old.blocks own) → IsExact last old.tree old.writers → IsPerformed last now caller (op.Open path) old verdict old
  performed_open verdict judged told exact =
      performed_done last now caller (op.Open path) old old verdict (told ∙ judged) (ap is_done told) refl refl refl refl refl refl exact (λ h. undone_same old)

open_granted : (place : ℕ) (ring : KeyRing) (now : ℕ) (caller : List ℕ) (path : List (List ℕ)) (blocks : Blocks) (own : List FileBlock)
    → rows_granted place ring now caller (op.Open path) (Done (opened_reply (tokens_of ring now) caller blocks own)) ≡ map (reader_row place ring now caller) (filter_map (located_block (tokens_of ring now) caller blocks) own)
open_granted place ring now caller path blocks own = map-map _ _ (filter_map (located_block (tokens_of ring now) caller blocks) own)

pub open_rows : (place : ℕ) (ring : KeyRing) (now : ℕ) (caller : List ℕ) (path : List (List ℕ)) (blocks : Blocks) (own : List FileBlock) (verdict : Verdict) (ledger left : List LedgerRow)
    → verdict ≡ Done (opened_reply (tokens_of ring now) caller blocks own) → left ≡ ledger ++ map (reader_row place ring now caller) (filter_map (located_block (tokens_of ring now) caller blocks) own)
    → left ≡ ledger ++ rows_granted place ring now caller (op.Open path) verdict
open_rows place ring now caller path blocks own verdict ledger left told entered =
    entered ∙ (ap (λ rows. ledger ++ rows) (sym (open_granted place ring now caller path blocks own)) ∙ ap (λ v. ledger ++ rows_granted place ring now caller (op.Open path) v) (sym told))
