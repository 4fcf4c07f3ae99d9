-- What is judged of requests for blocks before their tokens are issued.
use Rattle.std.specs.Prelude.{◌≡◌, ℕ, false, List, Option, Some, None}
use Rattle.block_records.specs.declared.last_block.LastBlock.{LastBlock}
use Rattle.block_map.specs.BlockFacts.{Blocks}
use Rattle.block_map.specs.BlockEffects.{refused_behind, given_behind}
use Rattle.block_changes.specs.declared.behind.NewBlock.{NewBlock}
use Rattle.namespace_rows.specs.declared.row.Row.{Row}
use Rattle.flat_rows.specs.declared.verdict.Verdict as answer
use Rattle.flat_rows.specs.declared.verdict.Verdict.TheVariants.{Done}
use Rattle.flat_rows.specs.Verdicts.{is_done}
use Rattle.flat_rows.specs.NodeOutcome.{Tokens}
use Rattle.flat_rows.specs.BlockOutcome.{replication_at, added_reply, opened_reply}
use Rattle.write_rules.specs.declared.blocks.JudgedBlock.{JudgedBlock}
use Rattle.write_rules.specs.declared.blocks.JudgedBlock.TheVariants as block
use Rattle.write_rules.specs.declared.blocks.JudgedOpen.{JudgedOpen}
use Rattle.write_rules.specs.declared.blocks.JudgedOpen.TheVariants as reader

-- the verdict, once the caller has the token
abbrev pub verdict_of_new : Tokens → List ℕ → JudgedBlock → answer.Verdict
verdict_of_new token caller (block.Verdict verdict) = verdict
verdict_of_new token caller (block.New new replication) = Done (added_reply token caller new)

abbrev pub verdict_of_open : Tokens → List ℕ → Blocks → JudgedOpen → answer.Verdict
verdict_of_open token caller blocks (reader.Verdict verdict) = verdict
verdict_of_open token caller blocks (reader.File file) = Done (opened_reply token caller blocks file.now.blocks)

-- a verdict that is known without a token does nothing
abbrev pub DoesNothing : JudgedOpen → Type 0
DoesNothing (reader.Verdict verdict) = is_done verdict ≡ false
DoesNothing (reader.File file) = Unit {0}

-- a block that is given is the one that the map of blocks has next
pub record IsNext (blocks : Blocks) (now : ℕ) (last : Option LastBlock) (new : NewBlock) (replication : ℕ) : Type 0 where
  pub allowed : refused_behind blocks last now ≡ None
  pub given : new ≡ given_behind blocks last now replication

abbrev pub IsGiven : Blocks → ℕ → Option LastBlock → ℕ → JudgedBlock → Type 0
IsGiven blocks now last replication (block.Verdict verdict) = is_done verdict ≡ false
IsGiven blocks now last replication (block.New new own) = (own ≡ replication) × IsNext blocks now last new replication

-- and so many replicas are to be of it as of each block of the file
abbrev pub IsPlanned : Blocks → ℕ → Option LastBlock → Option Row → JudgedBlock → Type 0
IsPlanned blocks now last at (block.Verdict verdict) = is_done verdict ≡ false
IsPlanned blocks now last at (block.New new own) = (replication_at at ≡ Some own) × IsNext blocks now last new own
