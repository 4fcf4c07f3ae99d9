use Rattle.std.proofs.Common.{[], ◌∙◌, sym}
use Rattle.file_table.specs.Seen.{file_held}
use Rattle.inode_nodes.specs.Node.{rows}
use Rattle.inode_nodes.proofs.Through.{if_ok}
use Rattle.inode_files.proofs.SeenRows.{shown_ascending, shown_child_names}
use Rattle.inode_files.proofs.inode.Inode.names.Goals as goal

pub names_of-requires : goal.names_of-requires
names_of-requires c = sym (shown_ascending (file_held c.args.self.now.files.now) (rows c.args.self.now.node.now)) ∙ c.requires

pub returns : goal.returns
returns c = if_ok c.names_of.result (λ names is. is ∙ sym (shown_child_names (file_held c.args.self.now.files.now) [] (rows c.args.self.now.node.now))) c.names_of.ensures
