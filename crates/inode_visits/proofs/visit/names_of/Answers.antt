use Rattle.std.proofs.Common.{◌∙◌}
use Rattle.inode_nodes.proofs.Through.{if_ok}
use Rattle.inode_nodes.proofs.Children.{held_keys}
use Rattle.inode_visits.proofs.visit.names_of.Goals as goal

pub returns-in-Directory : goal.returns-in-Directory
returns-in-Directory c = if_ok c.keys.result (λ names is. is ∙ held_keys c.node.inside c.in-Directory.nodes c.args.node.now c.node.view_is c.in-Directory.is c.requires) c.keys.ensures
