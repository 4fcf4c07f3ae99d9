-- What is left where a file is taken from the client who has it open.
use Rattle.std.specs.Prelude.{◌≡◌, ℕ, List, Option, Some, None}
use Rattle.file_states.specs.declared.state.FileState.TheVariants.{Closed}
use Rattle.refusals.specs.declared.refusal.Refusal.{Refusal}
use Rattle.block_map.specs.BlockFacts.{Blocks}
use Rattle.block_map.specs.BlockEffects.{with_recovery_begun}
use Rattle.namespace_rows.specs.declared.file_row.FileRow.{FileRow}
use Rattle.namespace_rows.specs.declared.row.Row.{Row}
use Rattle.namespace_rows.specs.declared.row.Change.TheVariants as change
use Rattle.namespace_rows.specs.Rows.{row_at}
use Rattle.namespace_rows.specs.Changes.{row_rewritten}
use Rattle.flat_rows.specs.Takeover.{refused_taking, taken_state, taken_reply}
use Rattle.flat_rows.specs.declared.verdict.Verdict.{Verdict}
use Rattle.flat_rows.specs.declared.verdict.Verdict.TheVariants.{Done, Refused}
use Rattle.lease_manager.specs.declared.writers.Writers.{Writers}
use Rattle.file_effects.specs.Effected.{IsExact}

-- a closed file has the path
pub record IsClosedFile (path : List (List ℕ)) (rows : List Row) : Type 0 where
  pub row : Row
  pub file : FileRow
  pub at : row_at path rows ≡ Some row
  pub has : row.file ≡ Some file
  pub closed : file.state ≡ Closed

abbrev pub takeover_verdict : Option Refusal → Blocks → Option ℕ → Verdict
takeover_verdict None blocks block = Done (taken_reply blocks block)
takeover_verdict (Some refusal) blocks block = Refused refusal

-- the verdict, where no lease is in the way
abbrev pub refused_or_taken : Blocks → ℕ → Option ℕ → Verdict
refused_or_taken blocks now block = takeover_verdict (refused_taking blocks now block) blocks block

-- the recovery of the unfinished block begins
abbrev pub recovered_for : Blocks → ℕ → Option ℕ → Blocks
recovered_for blocks now None = blocks
recovered_for blocks now (Some block) = with_recovery_begun blocks block now

pub record IsTaken (path : List (List ℕ)) (now : ℕ) (block : Option ℕ) (rows : List Row) (blocks : Blocks) (writers : Writers) (rows_left : List Row) (blocks_left : Blocks) (writers_left : Writers) : Type 0 where
  pub tree : rows_left ≡ row_rewritten path (change.State (taken_state blocks now block)) rows
  pub blocks_is : blocks_left ≡ recovered_for blocks now block
  pub exact : (last : List ℕ → Option ℕ) → IsExact last rows writers → IsExact last rows_left writers_left
