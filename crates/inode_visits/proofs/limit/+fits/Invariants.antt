use Rattle.std.proofs.Common.{◌≡◌, ◌+◌, ◌*◌, ◌≤◌, length}
use Rattle.std.specs.List.{list_all}
use Rattle.inode_nodes.specs.Node.{flatten}
use Rattle.inode_visits.specs.Limits.{fits_behind}
use Rattle.inode_visits.proofs.limit.+fits.Given as goal

abbrev pub decreases-fits : goal.decreases-fits
decreases-fits l = 2 * length l.node.now.beneath + 1

abbrev pub decreases-fits_in : goal.decreases-fits_in
decreases-fits_in l = 2 * length (flatten l.map.now.entries)

abbrev pub invariant-fits_in-loop-name : goal.invariant-fits_in-loop-name
invariant-fits_in-loop-name l = record {
  can_next : (goal.iterator-fits_in-loop-name).can_next l.name-iterator;
  is_finite : (goal.iterator-fits_in-loop-name).is_finite l.name-iterator;
  same : list_all (fits_behind l.depth l.bytes) (flatten l.name-iterator) ≡ list_all (fits_behind l.depth l.bytes) (flatten l.map.entries);
  left : length (flatten l.name-iterator) ≤ length (flatten l.map.entries);
}
