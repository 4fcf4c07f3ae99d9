use Rattle.std.proofs.Common.{◌∙◌, None}
use Rattle.file_states.specs.declared.kind.ObjectKind.TheVariants.{Directory}
use Rattle.inode_nodes.proofs.Through.{if_ok}
use Rattle.inode_nodes.proofs.Makes.{held_one}
use Rattle.inode_nodes.proofs.node.Node.holding.Goals as goal

pub returns : goal.returns
returns c =
    if_ok c.new_directory.result
    (λ node is. is ∙ held_one (record { kind = Directory; owner = c.args.owner.now; group = c.args.group.now; acl = c.args.acl; file = None }) c.args.name.now c.args.inner c.in_ok-map.map.entries c.in_ok-map.ensures.one) c.new_directory.ensures
