use Rattle.std.proofs.Common.{◌≡◌, ◌++◌, ◌+◌, ◌*◌, ◌≤◌, ◌||◌, length, map}
use Rattle.namespace_rows.specs.Files.{blocks_in, holders}
use Rattle.inode_nodes.specs.Node.{flatten}
use Rattle.inode_visits.proofs.Visits.{seen_entries}
use Rattle.inode_visits.specs.Holding.{has_files}
use Rattle.inode_visits.proofs.blocks.+files.Given as goal

abbrev pub decreases-push_files : goal.decreases-push_files
decreases-push_files l = 2 * length l.node.now.beneath + 1

abbrev pub decreases-push_files_in : goal.decreases-push_files_in
decreases-push_files_in l = 2 * length (flatten l.nodes.now.entries)

abbrev pub invariant-push_files_in-loop-name : goal.invariant-push_files_in-loop-name
invariant-push_files_in-loop-name l = record {
  can_next : (goal.iterator-push_files_in-loop-name).can_next l._name-iterator;
  is_finite : (goal.iterator-push_files_in-loop-name).is_finite l._name-iterator;
  clients : map (λ who. who.now) l.clients.items ++ holders (flatten (seen_entries l.files l._name-iterator)) ≡ map (λ who. who.now) l.initial.clients.items ++ holders (flatten (seen_entries l.files l.nodes.entries));
  blocks : l.blocks.items ++ blocks_in (flatten (seen_entries l.files l._name-iterator)) ≡ l.initial.blocks.items ++ blocks_in (flatten (seen_entries l.files l.nodes.entries));
  any : (l.any || has_files (flatten (seen_entries l.files l._name-iterator))) ≡ (l.initial.any || has_files (flatten (seen_entries l.files l.nodes.entries)));
  left : length (flatten l._name-iterator) ≤ length (flatten l.nodes.entries);
}
