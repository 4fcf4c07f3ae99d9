-- Laws about grants over histories.
use Rattle.std.specs.Prelude.{◌≡◌, ℕ, List, [], ◌∷◌, ◌⊎◌, map}
use Rattle.std.specs.List.{AllByRecursion}
use Rattle.permission_bits.specs.Modes.{modes}
use Rattle.permission_bits.specs.declared.modes.Modes.{Modes}
use Rattle.block_answers.specs.declared.commands.Recover.{Recover}
use Rattle.block_answers.specs.declared.commands.CopyOrder.{CopyOrder}
use Rattle.block_answers.specs.declared.located.LocatedBlock.{LocatedBlock}
use Rattle.hdfs_types.specs.declared.op.Op.{Op}
use Rattle.hdfs_types.specs.declared.op.Op.TheVariants as op
use Rattle.hdfs_types.specs.declared.reply.Reply.{Reply}
use Rattle.hdfs_types.specs.declared.reply.Reply.TheVariants as reply
use Rattle.grant_ledger.specs.declared.ledger.LedgerRow.{LedgerRow}
use Rattle.flat_rows.specs.declared.verdict.Verdict.{Verdict}
use Rattle.flat_rows.specs.declared.verdict.Verdict.TheVariants.{Done, Denied, Refused}
use Rattle.history.specs.declared.entry.HistoryEntry.{HistoryEntry}
use Rattle.history.specs.Config.{Opening}
use Rattle.history.specs.Grants.{ledger_of}

-- ---- who was granted what

-- a block is among these
abbrev pub IsAmong : ℕ → List ℕ → Type 0
IsAmong block [] = ⊥
IsAmong block (own ∷ others) = (block ≡ own) ⊎ IsAmong block others

-- what an operation with this reply lets its caller do: one who asked for a new block writes it, one who opened a file reads the blocks that
-- he is told of, and a DataNode writes those whose recovery it is to lead, and reads and writes those that it is to copy
abbrev pub Lets : Op → Reply → ℕ → Modes → Type 0
Lets (op.AddBlock path last) (reply.Added added) block granted = (block ≡ added.block) × (granted ≡ modes 2)
Lets (op.Open path) (reply.Opened opened) block granted = IsAmong block (map (λ (own : LocatedBlock). own.block) opened.blocks) × (granted ≡ modes 1)
Lets op.Heartbeat (reply.Commands commands) block granted =
    (IsAmong block (map (λ (own : Recover). own.block) commands.recoveries) × (granted ≡ modes 2))
    ⊎ (IsAmong block (map (λ (own : CopyOrder). own.block) commands.copies) × (granted ≡ modes 3))
Lets _ told block granted = ⊥

abbrev pub LetsBy : Op → Verdict → ℕ → Modes → Type 0
LetsBy what (Done told) block granted = Lets what told block granted
LetsBy what (Denied denial) block granted = ⊥
LetsBy what (Refused refusal) block granted = ⊥

-- the row stands for what this entry granted
pub record IsGrantOf (entry : HistoryEntry) (row : LedgerRow) : Type 0 where
  pub place : row.place ≡ entry.place
  pub user : row.grant.user ≡ entry.request.caller
  pub let_by : LetsBy entry.request.op entry.verdict row.grant.block row.grant.modes

abbrev pub IsGrantOfAny : List HistoryEntry → LedgerRow → Type 0
IsGrantOfAny [] row = ⊥
IsGrantOfAny (entry ∷ earlier) row = IsGrantOf entry row ⊎ IsGrantOfAny earlier row

-- each token was granted to the caller of an entry at that place, for what that entry let him do
abbrev pub GrantsWereAsked : Type 0
GrantsWereAsked = (opening : Opening) (entries : List HistoryEntry) → AllByRecursion (IsGrantOfAny entries) (ledger_of opening entries)
