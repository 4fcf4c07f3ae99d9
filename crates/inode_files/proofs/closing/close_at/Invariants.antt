use Rattle.std.proofs.Common.{◌≡◌, ◌+◌, ◌≤◌, List, length}
use Rattle.namespace_rows.specs.declared.row.Row.{Row}
use Rattle.file_table.specs.Finished.{finished_files}
use Rattle.file_table.specs.Kept.{AreKept}
use Rattle.file_table.specs.Seen.{seen_rows}
use Rattle.inode_files.proofs.Closings.{Closes}
use Rattle.inode_files.proofs.closing.close_at.Given as goal

abbrev pub invariant-loop-place : goal.invariant-loop-place
invariant-loop-place l = record {
  few : l.closed ≤ l.place-index;
  closes : Closes l.client l.initial.files l.files;
  count : (rows : List Row) → AreKept l.initial.files rows → l.closed + length (finished_files l.client (seen_rows l.files rows)) ≡ length (finished_files l.client (seen_rows l.initial.files rows));
}
