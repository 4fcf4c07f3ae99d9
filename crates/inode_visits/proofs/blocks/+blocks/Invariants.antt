use Rattle.std.proofs.Common.{◌≡◌, ◌++◌, ◌+◌, ◌*◌, ◌≤◌, length}
use Rattle.namespace_rows.specs.Files.{blocks_in}
use Rattle.inode_nodes.specs.Node.{flatten}
use Rattle.inode_visits.proofs.Visits.{seen_entries}
use Rattle.inode_visits.proofs.blocks.+blocks.Given as goal

abbrev pub decreases-push_blocks : goal.decreases-push_blocks
decreases-push_blocks l = 2 * length l.node.now.beneath + 1

abbrev pub decreases-push_blocks_in : goal.decreases-push_blocks_in
decreases-push_blocks_in l = 2 * length (flatten l.nodes.now.entries)

abbrev pub invariant-push_blocks_in-loop-name : goal.invariant-push_blocks_in-loop-name
invariant-push_blocks_in-loop-name l = record {
  can_next : (goal.iterator-push_blocks_in-loop-name).can_next l._name-iterator;
  is_finite : (goal.iterator-push_blocks_in-loop-name).is_finite l._name-iterator;
  added : l.found.items ++ blocks_in (flatten (seen_entries l.files l._name-iterator)) ≡ l.initial.found.items ++ blocks_in (flatten (seen_entries l.files l.nodes.entries));
  left : length (flatten l._name-iterator) ≤ length (flatten l.nodes.entries);
}
