use Rattle.std.proofs.Common.{◌≡◌, ◌++◌, ◌+◌, ◌*◌, ◌≤◌, length, map}
use Rattle.namespace_rows.specs.Files.{holders}
use Rattle.inode_nodes.specs.Node.{flatten}
use Rattle.inode_visits.proofs.Visits.{seen_entries}
use Rattle.inode_visits.proofs.visit.+holders.Given as goal

abbrev pub decreases-push_holders : goal.decreases-push_holders
decreases-push_holders l = 2 * length l.node.now.beneath + 1

abbrev pub decreases-push_holders_in : goal.decreases-push_holders_in
decreases-push_holders_in l = 2 * length (flatten l.nodes.now.entries)

abbrev pub invariant-push_holders_in-loop-name : goal.invariant-push_holders_in-loop-name
invariant-push_holders_in-loop-name l = record {
  can_next : (goal.iterator-push_holders_in-loop-name).can_next l._name-iterator;
  is_finite : (goal.iterator-push_holders_in-loop-name).is_finite l._name-iterator;
  added : map (λ who. who.now) l.found.items ++ holders (flatten (seen_entries l.files l._name-iterator)) ≡ map (λ who. who.now) l.initial.found.items ++ holders (flatten (seen_entries l.files l.nodes.entries));
  left : length (flatten l._name-iterator) ≤ length (flatten l.nodes.entries);
}
