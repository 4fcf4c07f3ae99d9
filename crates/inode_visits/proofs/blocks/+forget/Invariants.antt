use Rattle.std.proofs.Common.{◌≡◌, ℕ, ◌+◌, ◌*◌, ◌≤◌, length}
use Rattle.file_table.specs.Kept.{are_at_place, get_unless}
use Rattle.inode_nodes.specs.Node.{flatten}
use Rattle.inode_visits.proofs.blocks.+forget.Given as goal

abbrev pub decreases-forget : goal.decreases-forget
decreases-forget l = 2 * length l.node.now.beneath + 1

abbrev pub decreases-forget_in : goal.decreases-forget_in
decreases-forget_in l = 2 * length (flatten l.nodes.now.entries)

abbrev pub invariant-forget_in-loop-name : goal.invariant-forget_in-loop-name
invariant-forget_in-loop-name l = record {
  can_next : (goal.iterator-forget_in-loop-name).can_next l._name-iterator;
  is_finite : (goal.iterator-forget_in-loop-name).is_finite l._name-iterator;
  left_over : (k : ℕ) → get_unless (are_at_place k (flatten l._name-iterator)) l.files k ≡ get_unless (are_at_place k (flatten l.nodes.entries)) l.initial.files k;
  left : length (flatten l._name-iterator) ≤ length (flatten l.nodes.entries);
}
