use Rattle.std.proofs.Common.{◌≡◌, ◌+◌, ◌*◌, ◌≤◌, length}
use Rattle.std.specs.Prelude.{filter}
use Rattle.namespace_rows.specs.First.{first}
use Rattle.inode_nodes.specs.Node.{flatten}
use Rattle.inode_visits.specs.Visits.{is_closed}
use Rattle.inode_visits.proofs.visit.+closed.Given as goal

abbrev pub decreases-first_closed : goal.decreases-first_closed
decreases-first_closed l = 2 * length l.node.now.beneath + 1

abbrev pub decreases-first_closed_in : goal.decreases-first_closed_in
decreases-first_closed_in l = 2 * length (flatten l.map.now.entries)

abbrev pub invariant-first_closed_in-loop-name : goal.invariant-first_closed_in-loop-name
invariant-first_closed_in-loop-name l = record {
  can_next : (goal.iterator-first_closed_in-loop-name).can_next l.name-iterator;
  is_finite : (goal.iterator-first_closed_in-loop-name).is_finite l.name-iterator;
  same : first (filter (is_closed l.caller l.groups l.need) (flatten l.name-iterator)) ≡ first (filter (is_closed l.caller l.groups l.need) (flatten l.map.entries));
  left : length (flatten l.name-iterator) ≤ length (flatten l.map.entries);
}
