use Rattle.std.proofs.Common.{◌≡◌, ◌+◌, ◌*◌, ◌≤◌, ◌<◌, ◌^◌, length}
use Rattle.inode_nodes.specs.Node.{flatten}
use Rattle.inode_visits.specs.Visits.{told_number, directories, files}
use Rattle.inode_visits.proofs.Visits.{CountedBytes, seen_entries}
use Rattle.inode_visits.proofs.visit.+count.Given as goal

abbrev pub decreases-count : goal.decreases-count
decreases-count l = 2 * length l.node.now.beneath + 1

abbrev pub decreases-count_in : goal.decreases-count_in
decreases-count_in l = 2 * length (flatten l.map.now.entries)

abbrev pub invariant-count_in-loop-name : goal.invariant-count_in-loop-name
invariant-count_in-loop-name l = record {
  can_next : (goal.iterator-count_in-loop-name).can_next l._name-iterator;
  is_finite : (goal.iterator-count_in-loop-name).is_finite l._name-iterator;
  directories : told_number (l.directories + directories (flatten (seen_entries l.files l._name-iterator))) ≡ told_number (directories (flatten (seen_entries l.files l.map.entries)));
  files : told_number (l.others + files (flatten (seen_entries l.files l._name-iterator))) ≡ told_number (files (flatten (seen_entries l.files l.map.entries)));
  few_directories : l.directories < 2 ^ 64;
  few_files : l.others < 2 ^ 64;
  bytes : CountedBytes (flatten (seen_entries l.files l.map.entries)) (flatten (seen_entries l.files l._name-iterator)) l.bytes;
  left : length (flatten l._name-iterator) ≤ length (flatten l.map.entries);
}
