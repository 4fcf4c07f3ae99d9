use Rattle.std.proofs.Common.{◌≡◌, ◌++◌, ◌+◌, ◌*◌, ◌≤◌, length, map}
use Rattle.std.specs.Prelude.{IsTrue}
use Rattle.namespace_rows.specs.Changes.{are_paths}
use Rattle.inode_nodes.specs.Node.{flatten, row_placed}
use Rattle.inode_visits.proofs.Visits.{seen_entries}
use Rattle.inode_visits.proofs.visit.+rows.Given as goal

abbrev pub decreases-push_rows : goal.decreases-push_rows
decreases-push_rows l = 2 * length l.node.now.beneath + 1

abbrev pub decreases-push_rows_in : goal.decreases-push_rows_in
decreases-push_rows_in l = 2 * length (flatten l.nodes.now.entries)

abbrev pub invariant-push_rows_in-loop-name : goal.invariant-push_rows_in-loop-name
invariant-push_rows_in-loop-name l = record {
  can_next : (goal.iterator-push_rows_in-loop-name).can_next l.name-iterator;
  is_finite : (goal.iterator-push_rows_in-loop-name).is_finite l.name-iterator;
  added : l.found.items ++ map (row_placed l.path) (flatten (seen_entries l.files l.name-iterator)) ≡ l.initial.found.items ++ map (row_placed l.path) (flatten (seen_entries l.files l.nodes.entries));
  within : IsTrue (are_paths (map (row_placed l.path) (flatten l.name-iterator)));
  left : length (flatten l.name-iterator) ≤ length (flatten l.nodes.entries);
}
