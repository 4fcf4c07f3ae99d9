use Rattle.std.proofs.Common.{Some, None, ap, subst, ◌∙◌}
use Rattle.std.specs.Option.{option_map}
use Rattle.inode_nodes.specs.Part.{IsWhole}
use Rattle.inode_nodes.proofs.Through.{if_ok}
use Rattle.inode_tree.specs.Tree.{branch_at}
use Rattle.inode_tree.proofs.Asked.{ascending_there, names_there}
use Rattle.inode_tree.proofs.tree.Tree.children.Goals as goal

pub names-requires-in-Some : goal.names-requires-in-Some
names-requires-in-Some c = ascending_there c.names.result.now c.args.path.now c.names.ensures.names c.self.inside.nodes c.args.self.now c.self.view_is c.self.invariant (option_map branch_at c.find.result) c.find.ensures (branch_at c.in-Some.inode) (ap (option_map branch_at) c.in-Some.is)

pub returns-in-Some : goal.returns-in-Some
returns-in-Some c =
    if_ok c.names-in-Some.result (λ names is. is ∙ names_there c.names.result.now c.args.path.now c.names.ensures.names c.self.inside.nodes c.args.self.now c.self.view_is c.self.invariant (Some (branch_at c.in-Some.inode)) (subst (IsWhole c.names.result.now c.self.inside.nodes) (ap (option_map branch_at) c.in-Some.is) c.find.ensures)) c.names-in-Some.ensures

pub returns-in-None : goal.returns-in-None
returns-in-None c =
    rw c.new.ensures.items (names_there c.names.result.now c.args.path.now c.names.ensures.names c.self.inside.nodes c.args.self.now c.self.view_is c.self.invariant None (subst (IsWhole c.names.result.now c.self.inside.nodes) (ap (option_map branch_at) c.in-None.is) c.find.ensures))
