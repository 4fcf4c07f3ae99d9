-- What is judged of an append before anything changes.
use Rattle.std.specs.Prelude.{◌≡◌, ℕ, false, List, if◌then◌else◌, Option, Some}
use Rattle.file_states.specs.declared.state.FileState.TheVariants as state
use Rattle.refusals.specs.declared.refusal.Refusal.{Refusal}
use Rattle.refusals.specs.declared.refusal.Refusal.TheVariants.{LeaseHeld}
use Rattle.hdfs_types.specs.declared.reply.Reply.TheVariants.{Empty}
use Rattle.namespace_rows.specs.declared.file_row.FileRow.{FileRow}
use Rattle.namespace_rows.specs.declared.row.Row.{Row}
use Rattle.namespace_rows.specs.Rows.{row_at}
use Rattle.file_blocks.specs.Blocks.{unfinished_block}
use Rattle.flat_rows.specs.Facts.{Facts}
use Rattle.flat_rows.specs.Takeover.{refused_taking, taken_reply}
use Rattle.flat_rows.specs.Verdicts.{is_done}
use Rattle.flat_rows.specs.declared.verdict.Verdict as answer
use Rattle.flat_rows.specs.declared.verdict.Verdict.TheVariants.{Done}
pub use Rattle.perm_walk.specs.Target.{file_at_row}
use Rattle.write_rules.specs.Judged.{refused_or}
use Rattle.write_rules.specs.declared.appends.JudgedAppend.{JudgedAppend}
use Rattle.write_rules.specs.declared.appends.JudgedAppend.TheVariants.{Verdict, Closed, Held}

-- a file that another client has open can be taken from him once his lease isn't live, if its last block can be recovered
abbrev pub refused_held : Facts → List ℕ → Option ℕ → Option Refusal
refused_held facts holder block = if facts.leases.is_live holder then Some (LeaseHeld holder) else refused_taking facts.blocks facts.now block

-- the verdict, as leases and nodes stand
abbrev pub verdict_of_append : Facts → JudgedAppend → answer.Verdict
verdict_of_append facts (Verdict verdict) = verdict
verdict_of_append facts Closed = Done Empty
verdict_of_append facts (Held holder block) = refused_or (taken_reply facts.blocks block) (refused_held facts holder block)

-- what was found of the file
abbrev pub IsJudgedFile : FileRow → JudgedAppend → Type 0
IsJudgedFile file (Verdict verdict) = is_done verdict ≡ false
IsJudgedFile file Closed = file.state ≡ state.Closed
IsJudgedFile file (Held holder block) = (file.state ≡ state.Open holder) × (unfinished_block file.blocks ≡ block)

-- what is done is found at the path
abbrev pub IsJudgedAt : List (List ℕ) → List Row → JudgedAppend → Type 0
IsJudgedAt path rows (Verdict verdict) = is_done verdict ≡ false
IsJudgedAt path rows judged = (file : FileRow) × (file_at_row (row_at path rows) ≡ Some file) × IsJudgedFile file judged
