use Rattle.std.proofs.Common.{◌∙◌, ap}
use Rattle.std.specs.Option.{option_map}
use Rattle.file_table.specs.Place.{placed}
use Rattle.file_states.specs.declared.kind.ObjectKind.TheVariants.{Directory}
use Rattle.default_acl.specs.Inheritance.{inherited_acl}
use Rattle.inode_nodes.proofs.Through.{if_ok}
use Rattle.inode_nodes.proofs.Makes.{chain_on}
use Rattle.inode_nodes.proofs.node.Node.+chain.Goals as goal

pub returns : goal.returns
returns t c =
    let list = c.in_ok-acl.ensures.list ∙ ap (λ m. inherited_acl c.args.above.now m Directory) c.for_missing_parent.ensures in
    if_ok c.holding.result
    (λ node is. is ∙ chain_on c.args.owner.now c.args.mode (option_map placed c.args.file) c.args.above.now c.in_ok-acl.acl c.args.group.now c.in-Some.first.now c.in-Some.rest.now c.args.names.now c.in_ok-inner.inner list c.in-Some.ensures.cases.0 c.in_ok-inner.ensures) c.holding.ensures
