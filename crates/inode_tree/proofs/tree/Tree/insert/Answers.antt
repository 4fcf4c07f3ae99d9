use Rattle.std.proofs.Common.{refl}
use Rattle.inode_tree.proofs.Trees.{insert_keeps, new_suits}
use Rattle.inode_tree.proofs.tree.Tree.insert.Goals as goal

pub invariant_of-self : goal.invariant_of-self
invariant_of-self c =
    insert_keeps c.args.path.now c.names.result.now c.names.ensures.names c.self.inside.nodes c.args.self.now c.self.view_is c.self.invariant c.insert.result _ c.insert.new.self refl c.requires.parent
    (new_suits c.args.file c.args.acl c.requires.suits) c.names.ensures.path c.insert.ensures.ok c.insert.ensures.err
