use Rattle.inode_tree.proofs.Trees.{make_keeps}
use Rattle.inode_tree.proofs.tree.Tree.make.Goals as goal

pub invariant_of-self : goal.invariant_of-self
invariant_of-self c =
    make_keeps c.args.path.now c.names.result.now c.names.ensures.names c.self.inside.nodes c.args.self.now c.self.view_is c.self.invariant c.make.result c.args.owner.now c.args.mode c.args.file c.make.new.self c.requires.clear c.names.ensures.path c.make.ensures.ok c.make.ensures.err
