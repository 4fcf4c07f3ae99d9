use Rattle.std.proofs.Common.{Some, ap, subst, ◌∙◌}
use Rattle.std.specs.Option.{option_map}
use Rattle.inode_nodes.specs.Part.{IsWhole}
use Rattle.inode_nodes.proofs.Through.{if_ok}
use Rattle.inode_tree.specs.Tree.{branch_at}
use Rattle.inode_tree.proofs.Asked.{holders_there}
use Rattle.inode_tree.proofs.FileBlocks.{blocks_there, files_there}
use Rattle.inode_tree.proofs.tree.Tree.files_under.Goals as goal

pub returns-in-Some-clause-clients : goal.returns-in-Some-clause-clients
returns-in-Some-clause-clients c =
    if_ok c.files.result (λ found is. is ∙ holders_there c.names.result.now c.args.path.now c.names.ensures.names c.self.inside.nodes c.args.self.now c.self.view_is c.self.invariant (Some (branch_at c.in-Some.inode)) (subst (IsWhole c.names.result.now c.self.inside.nodes) (ap (option_map branch_at) c.in-Some.is) c.find.ensures)) c.files.ensures.clients

pub returns-in-Some-clause-blocks : goal.returns-in-Some-clause-blocks
returns-in-Some-clause-blocks c =
    if_ok c.files.result (λ found is. is ∙ blocks_there c.names.result.now c.args.path.now c.names.ensures.names c.self.inside.nodes c.args.self.now c.self.view_is (Some (branch_at c.in-Some.inode)) (subst (IsWhole c.names.result.now c.self.inside.nodes) (ap (option_map branch_at) c.in-Some.is) c.find.ensures)) c.files.ensures.blocks

pub returns-in-Some-clause-any : goal.returns-in-Some-clause-any
returns-in-Some-clause-any c =
    if_ok c.files.result (λ found is. is ∙ files_there c.names.result.now c.args.path.now c.names.ensures.names c.self.inside.nodes c.args.self.now c.self.view_is (Some (branch_at c.in-Some.inode)) (subst (IsWhole c.names.result.now c.self.inside.nodes) (ap (option_map branch_at) c.in-Some.is) c.find.ensures)) c.files.ensures.any
