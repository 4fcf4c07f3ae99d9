use Rattle.std.proofs.Common.{◌≤◌, List}
use Rattle.namespace_rows.specs.declared.row.Row.{Row}
use Rattle.flat_rows.proofs.Holders.{tally}
use Rattle.file_table.specs.Kept.{AreKept}
use Rattle.inode_files.proofs.Closings.{is_counted}
use Rattle.inode_files.proofs.closing.count_finished.Given as goal

abbrev pub invariant-loop-place : goal.invariant-loop-place
invariant-loop-place l = record {
  few : l.count ≤ l.place-index;
  counted : (rows : List Row) → AreKept l.files rows → l.count ≤ tally (is_counted l.client l.files l.least) rows;
}
