use Rattle.std.proofs.Common.{◌≡◌, ◌++◌, length}
use Rattle.std.specs.Prelude.{reverse}
use Rattle.inode_visits.proofs.visit.push_reversed.Given as goal

abbrev pub invariant-loop-last : goal.invariant-loop-last
invariant-loop-last l = l.names.items ++ reverse l.last_first.items ≡ l.initial.names.items ++ reverse l.initial.last_first.items

abbrev pub decreases-loop-last : goal.decreases-loop-last
decreases-loop-last l = length l.last_first.items
