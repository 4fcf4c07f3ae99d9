use Rattle.std.proofs.Common.{Some, ap, refl, subst, ◌∙◌}
use Rattle.std.specs.Option.{option_map}
use Rattle.inode_nodes.specs.Part.{IsWhole}
use Rattle.inode_tree.specs.Tree.{branch_at}
use Rattle.inode_tree.proofs.Asked.{counted_there}
use Rattle.inode_tree.proofs.tree.Tree.count_open.Goals as goal

pub returns-in-Some : goal.returns-in-Some
returns-in-Some c =
    c.count_open.ensures
    ∙ counted_there c.args.path.now c.args.path.now refl c.self.inside.nodes c.args.self.now c.self.view_is c.self.invariant (Some (branch_at c.in-Some.inode)) (subst (IsWhole c.args.path.now c.self.inside.nodes) (ap (option_map branch_at) c.in-Some.is) c.find.ensures)
    c.args.caller.now c.args.groups.now c.args.need
