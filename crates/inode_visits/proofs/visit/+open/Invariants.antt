use Rattle.std.proofs.Common.{◌≡◌, ◌+◌, ◌*◌, ◌≤◌, ◌<◌, ◌^◌, ◌||◌, length}
use Rattle.std.specs.List.{list_any}
use Rattle.inode_nodes.specs.Node.{flatten}
use Rattle.inode_visits.specs.Holding.{has_files}
use Rattle.inode_visits.specs.Visits.{is_closed, told_number}
use Rattle.inode_visits.proofs.Visits.{seen_entries}
use Rattle.inode_visits.proofs.visit.+open.Given as goal

abbrev pub decreases-count_open : goal.decreases-count_open
decreases-count_open l = 2 * length l.node.now.beneath + 1

abbrev pub decreases-count_open_in : goal.decreases-count_open_in
decreases-count_open_in l = 2 * length (flatten l.map.now.entries)

abbrev pub invariant-count_open_in-loop-name : goal.invariant-count_open_in-loop-name
invariant-count_open_in-loop-name l = record {
  can_next : (goal.iterator-count_open_in-loop-name).can_next l._name-iterator;
  is_finite : (goal.iterator-count_open_in-loop-name).is_finite l._name-iterator;
  granted : list_any (is_closed l.caller l.groups l.need) (flatten (seen_entries l.files l._name-iterator)) ≡ list_any (is_closed l.caller l.groups l.need) (flatten (seen_entries l.files l.map.entries));
  number : told_number (l.number + length (flatten (seen_entries l.files l._name-iterator))) ≡ told_number (length (flatten (seen_entries l.files l.map.entries)));
  few : l.number < 2 ^ 64;
  any : (l.has_files || has_files (flatten (seen_entries l.files l._name-iterator))) ≡ has_files (flatten (seen_entries l.files l.map.entries));
  left : length (flatten l._name-iterator) ≤ length (flatten l.map.entries);
}
