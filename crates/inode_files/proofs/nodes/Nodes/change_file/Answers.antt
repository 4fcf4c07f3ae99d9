use Rattle.file_table.specs.Changed.{file_changed}
use Rattle.inode_nodes.specs.Node.{rows}
use Rattle.inode_files.proofs.SeenParts.{edited_there, edited_nowhere}
use Rattle.inode_files.proofs.nodes.Nodes.change_file.Goals as goal

pub returns-in-Some : goal.returns-in-Some
returns-in-Some c =
    edited_there c.self.inside.files c.change.new.self (rows c.self.inside.root) c.args.self.now c.args.path.now (file_changed c.args.change) c.self.view_is c.requires c.in-Some.place c.place_at-place.result c.in-Some.is c.place_at-place.ensures c.change.ensures c.self.invariant

pub returns-in_default : goal.returns-in_default
returns-in_default c =
    edited_nowhere c.self.inside.files c.self.inside.files (rows c.self.inside.root) c.args.self.now c.args.path.now (file_changed c.args.change) c.self.view_is c.requires c.place_at-place.result c.in_default.is c.place_at-place.ensures
