-- The ledger: every token that was ever granted, with the place of the entry that granted it. The oldest stands first.
-- (HADOOP-4359: the NameNode grants block access tokens; that it keeps a ledger of them is this project's own rule.)
use Rattle.std.specs.Prelude.{ℕ, List, [], ◌∷◌, ◌++◌, map}
use Rattle.permission_bits.specs.Modes.{modes}
use Rattle.permission_bits.specs.declared.modes.Modes.{Modes}
use Rattle.block_answers.specs.Commands.{Commands}
use Rattle.block_answers.specs.declared.commands.Recover.{Recover}
use Rattle.block_answers.specs.declared.commands.CopyOrder.{CopyOrder}
use Rattle.block_answers.specs.declared.located.LocatedBlock.{LocatedBlock}
use Rattle.hdfs_types.specs.declared.op.Op.{Op}
use Rattle.hdfs_types.specs.declared.op.Op.TheVariants as op
use Rattle.hdfs_types.specs.declared.reply.Reply.{Reply}
use Rattle.hdfs_types.specs.declared.reply.Reply.TheVariants as reply
use Rattle.block_tokens.specs.Ring.{KeyRing, grant_of}
use Rattle.grant_ledger.specs.declared.ledger.LedgerRow.{LedgerRow}
use Rattle.flat_rows.specs.declared.verdict.Verdict.{Verdict}
use Rattle.flat_rows.specs.declared.verdict.Verdict.TheVariants.{Done, Denied, Refused}
use Rattle.history.specs.declared.entry.HistoryEntry.{HistoryEntry}
use Rattle.history.specs.Config.{Opening}
use Rattle.history.specs.ClockAndLease.{clock_of}
use Rattle.history.specs.Keys.{ring_of}

-- the modes of a block
pub record BlockModes : Type 0 where
  pub block : ℕ
  pub modes : Modes

-- what a DataNode gets tokens for: to write the blocks whose recovery it leads, and to read and write those that it copies
abbrev pub granted_with : Commands → List BlockModes
granted_with commands =
    map (λ (recovery : Recover). record { block = recovery.block; modes = modes 2 }) commands.recoveries
    ++ map (λ (copy : CopyOrder). record { block = copy.block; modes = modes 3 }) commands.copies

abbrev pub granted_to_node : Reply → List BlockModes
granted_to_node (reply.Commands commands) = granted_with commands
granted_to_node _ = []

-- a writer gets a token to write his new block
abbrev pub granted_to_writer : Reply → List BlockModes
granted_to_writer (reply.Added added) = record { block = added.block; modes = modes 2 } ∷ []
granted_to_writer _ = []

-- a reader gets one to read each block that he is told of
abbrev pub granted_to_reader : Reply → List BlockModes
granted_to_reader (reply.Opened opened) = map (λ (block : LocatedBlock). record { block = block.block; modes = modes 1 }) opened.blocks
granted_to_reader _ = []

-- only these three operations grant something
abbrev pub granted_by : Op → Reply → List BlockModes
granted_by (op.AddBlock path last) told = granted_to_writer told
granted_by (op.Open path) told = granted_to_reader told
granted_by op.Heartbeat told = granted_to_node told
granted_by _ told = []

abbrev pub ledger_row : ℕ → KeyRing → ℕ → List ℕ → BlockModes → LedgerRow
ledger_row place ring now caller own = record { place = place; grant = grant_of ring now caller own.block own.modes }

-- the grants of one entry: to the caller, under the key that is the current one, from that moment on
abbrev pub rows_granted : ℕ → KeyRing → ℕ → List ℕ → Op → Verdict → List LedgerRow
rows_granted place ring now caller what (Done told) = map (ledger_row place ring now caller) (granted_by what told)
rows_granted place ring now caller what (Denied denial) = []
rows_granted place ring now caller what (Refused refusal) = []

abbrev pub ledger_of : Opening → List HistoryEntry → List LedgerRow
ledger_of opening [] = []
ledger_of opening (entry ∷ earlier) =
    ledger_of opening earlier ++ rows_granted entry.place (ring_of opening earlier) (clock_of (entry ∷ earlier)) entry.request.caller entry.request.op entry.verdict
