use Rattle.std.proofs.Common.{Some, None, ap, subst, ◌∙◌}
use Rattle.std.specs.Option.{option_map}
use Rattle.inode_nodes.specs.Part.{IsWhole}
use Rattle.inode_nodes.proofs.Through.{if_ok}
use Rattle.inode_tree.specs.Tree.{branch_at}
use Rattle.inode_tree.proofs.FileBlocks.{blocks_there}
use Rattle.inode_tree.proofs.tree.Tree.blocks_under.Goals as goal

pub returns-in-Some : goal.returns-in-Some
returns-in-Some c =
    if_ok c.block_ids.result (λ found is. is ∙ blocks_there c.names.result.now c.args.path.now c.names.ensures.names c.self.inside.nodes c.args.self.now c.self.view_is (Some (branch_at c.in-Some.inode)) (subst (IsWhole c.names.result.now c.self.inside.nodes) (ap (option_map branch_at) c.in-Some.is) c.find.ensures)) c.block_ids.ensures

pub returns-in-None : goal.returns-in-None
returns-in-None c =
    rw c.new.ensures.items (blocks_there c.names.result.now c.args.path.now c.names.ensures.names c.self.inside.nodes c.args.self.now c.self.view_is None (subst (IsWhole c.names.result.now c.self.inside.nodes) (ap (option_map branch_at) c.in-None.is) c.find.ensures))
