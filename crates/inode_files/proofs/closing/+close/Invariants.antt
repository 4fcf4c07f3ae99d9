use Rattle.std.proofs.Common.{◌≡◌, ℕ, ◌+◌, ◌*◌, ◌^◌, ◌<◌, ◌≤◌, List, length}
use Rattle.namespace_rows.specs.declared.row.Row.{Row}
use Rattle.file_table.specs.Finished.{finished_files}
use Rattle.file_table.specs.Kept.{AreKept, are_at_place}
use Rattle.file_table.specs.Seen.{seen_rows}
use Rattle.inode_nodes.specs.Node.{flatten}
use Rattle.inode_files.proofs.Closings.{closed_where}
use Rattle.inode_files.proofs.closing.+close.Given as goal

abbrev pub decreases-close_beneath : goal.decreases-close_beneath
decreases-close_beneath l = 2 * length l.node.now.beneath + 1

abbrev pub decreases-close_beneath_in : goal.decreases-close_beneath_in
decreases-close_beneath_in l = 2 * length (flatten l.nodes.now.entries)

abbrev pub invariant-close_beneath_in-loop-name : goal.invariant-close_beneath_in-loop-name
invariant-close_beneath_in-loop-name l = record {
  can_next : (goal.iterator-close_beneath_in-loop-name).can_next l._name-iterator;
  is_finite : (goal.iterator-close_beneath_in-loop-name).is_finite l._name-iterator;
  left_over : (k : ℕ) → closed_where l.client (are_at_place k (flatten l._name-iterator)) l.files k ≡ closed_where l.client (are_at_place k (flatten l.nodes.entries)) l.initial.files k;
  count : (all : List Row) → AreKept l.initial.files all → length (finished_files l.client (seen_rows l.initial.files all)) < 2 ^ 64
      → l.closed + length (finished_files l.client (seen_rows l.files all)) ≡ length (finished_files l.client (seen_rows l.initial.files all));
  left : length (flatten l._name-iterator) ≤ length (flatten l.nodes.entries);
}
