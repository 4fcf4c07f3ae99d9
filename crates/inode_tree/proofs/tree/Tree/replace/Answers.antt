use Rattle.std.proofs.Common.{Ok, Some, refl}
use Rattle.inode_tree.proofs.Trees.{insert_keeps, new_suits}
use Rattle.inode_tree.proofs.tree.Tree.replace.Goals as goal

pub invariant_of-self : goal.invariant_of-self
invariant_of-self c =
    insert_keeps c.args.path.now c.names.result.now c.names.ensures.names c.self.inside.nodes c.args.self.now c.self.view_is c.self.invariant (Ok tt) _ c.replace.new.self refl c.requires.parent
    (new_suits (Some c.args.file) c.args.acl c.requires.suits) c.names.ensures.path c.replace.ensures tt
