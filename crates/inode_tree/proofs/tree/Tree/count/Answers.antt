use Rattle.std.proofs.Common.{Some, ap, subst, ◌∙◌}
use Rattle.std.specs.Option.{option_map}
use Rattle.inode_nodes.specs.Part.{IsWhole}
use Rattle.inode_tree.specs.Tree.{branch_at}
use Rattle.inode_tree.proofs.Asked.{counts_there}
use Rattle.inode_tree.proofs.tree.Tree.count.Goals as goal

pub returns-in-Some : goal.returns-in-Some
returns-in-Some c =
    c.count.ensures ∙ counts_there c.names.result.now c.args.path.now c.names.ensures.names c.self.inside.nodes c.args.self.now c.self.view_is c.self.invariant (Some (branch_at c.in-Some.inode)) (subst (IsWhole c.names.result.now c.self.inside.nodes) (ap (option_map branch_at) c.in-Some.is) c.find.ensures)
