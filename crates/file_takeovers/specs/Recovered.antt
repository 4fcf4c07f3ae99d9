-- What is left where the recovery of a block ends.
use Rattle.std.specs.Prelude.{◌≡◌, ℕ, Bool, true, false, List, Option, Some, None}
use Rattle.hdfs_types.specs.declared.replica.RecoveredBlock.{RecoveredBlock}
use Rattle.refusals.specs.declared.refusal.Refusal.{Refusal}
use Rattle.hdfs_types.specs.declared.reply.Reply.TheVariants.{Empty}
use Rattle.std.specs.List.{list_any}
use Rattle.block_map.specs.BlockFacts.{Blocks, refused_recovered}
use Rattle.block_map.specs.BlockEffects.{with_recovery_ended}
use Rattle.namespace_rows.specs.declared.row.Row.{Row}
use Rattle.namespace_rows.specs.Rows.{row_at}
use Rattle.flat_rows.specs.BlockOutcome.{refused_by}
use Rattle.namespace_rows.specs.Changes.{is_recovered, recovers_nowhere_else, recovery_ended}
use Rattle.flat_rows.specs.declared.verdict.Verdict.{Verdict}
use Rattle.flat_rows.specs.declared.verdict.Verdict.TheVariants.{Done, Refused}
use Rattle.file_takeovers.specs.Found.{file_in}

-- what has the path is a file whose last block is in a recovery, and this one
abbrev pub recovers_at : ℕ → Option Row → Bool
recovers_at block at = is_recovered block (file_in at)

-- the path of such a file; none where there is no such file
abbrev pub IsSearched : ℕ → List Row → Option (List (List ℕ)) → Type 0
IsSearched block rows None = list_any (λ row. is_recovered block row.file) rows ≡ false
IsSearched block rows (Some path) = recovers_at block (row_at path rows) ≡ true

-- no two files recover the same block
abbrev pub RecoversOnce : ℕ → List Row → Type 0
RecoversOnce block rows = (path : List (List ℕ)) → recovers_at block (row_at path rows) ≡ true → recovers_nowhere_else path block rows ≡ true

abbrev pub refused_or_ended : Option Refusal → Verdict
refused_or_ended None = Done Empty
refused_or_ended (Some refusal) = Refused refusal

abbrev pub verdict_on_end : Blocks → RecoveredBlock → Verdict
verdict_on_end blocks own = refused_or_ended (refused_by (refused_recovered blocks own.block own.stamp))

pub record IsEnded (own : RecoveredBlock) (rows : List Row) (blocks : Blocks) (rows_left : List Row) (blocks_left : Blocks) : Type 0 where
  pub tree : rows_left ≡ recovery_ended own.block own.length rows
  pub blocks_is : blocks_left ≡ with_recovery_ended blocks own.block own.length own.nodes
