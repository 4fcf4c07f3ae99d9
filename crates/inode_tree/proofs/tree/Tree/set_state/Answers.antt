use Rattle.namespace_rows.specs.declared.row.Change.TheVariants as change
use Rattle.file_table.specs.Changed.{file_changed}
use Rattle.inode_tree.proofs.FileBlocks.{edited_tree}
use Rattle.inode_tree.proofs.tree.Tree.set_state.Goals as goal

pub invariant_of-self : goal.invariant_of-self
invariant_of-self c = edited_tree (file_changed (change.State c.args.state)) c.names.result.now c.self.inside.nodes c.change_file.new.self c.self.invariant c.change_file.ensures
