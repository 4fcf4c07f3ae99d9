use Rattle.std.proofs.Common.{sym}
use Rattle.std.specs.Option.{option_copied}
use Rattle.inode_nodes.proofs.Parts.{held_parts, file_parts}
use Rattle.inode_nodes.proofs.node.Node.child.Goals as goal

pub returns-in-Directory-clause-part : goal.returns-in-Directory-clause-part
returns-in-Directory-clause-part c =
    held_parts c.args.name.now c.self.inside c.in-Directory.map c.args.self.now (option_copied c.get.result) c.self.view_is c.in-Directory.is c.self.invariant (sym c.get.ensures.value)

pub returns-in-File-clause-part : goal.returns-in-File-clause-part
returns-in-File-clause-part c = file_parts c.args.name.now c.self.inside _ c.args.self.now c.self.view_is c.in-File.is
