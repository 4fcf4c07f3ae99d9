use Rattle.inode_tree.proofs.Trees.{remove_keeps}
use Rattle.inode_tree.proofs.tree.Tree.remove.Goals as goal

pub invariant_of-self : goal.invariant_of-self
invariant_of-self c = remove_keeps c.in-Some.first.now c.in-Some.rest.now c.self.inside.nodes c.remove.new.self c.remove.ensures c.self.invariant
