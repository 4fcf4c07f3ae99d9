use Rattle.std.proofs.Common.{take, drop}
use Rattle.inode_tree.specs.Tree.{branch_at}
use Rattle.perm_walk.proofs.Descents.{Passed}
use Rattle.perm_walk.proofs.Traversals.{Left}
use Rattle.perm_walk.proofs.reach.enter.Given as goal

-- what is known of the rows with so many names passed, and which directories above the path are left to be judged
abbrev pub invariant-loop-depth : goal.invariant-loop-depth
invariant-loop-depth l = record {
  passed : Passed l.path l.tree (take l.depth l.path) (drop l.depth l.path) (branch_at l.last) l.above;
  left : Left l.asked l.caller l.path l.tree (take l.depth l.path) (drop l.depth l.path) (branch_at l.last);
}
