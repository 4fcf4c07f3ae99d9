use Rattle.std.proofs.Common.{ap, ◌∙◌}
use Rattle.namespace_rows.specs.declared.row.Change.TheVariants as change
use Rattle.namespace_rows.specs.Changes.{row_rewritten}
use Rattle.file_table.specs.Changed.{file_changed}
use Rattle.inode_tree.proofs.FileBlocks.{edited_tree, both_done}
use Rattle.inode_tree.proofs.tree.Tree.complete.Goals as goal

pub invariant_of-self : goal.invariant_of-self
invariant_of-self c = edited_tree (file_changed (change.Completed c.args.block c.args.bytes)) c.names.result.now c.self.inside.nodes c.change_file.new.self c.self.invariant c.change_file.ensures

pub returns : goal.returns
returns c =
    c.change_file.ensures ∙ ap (λ p. row_rewritten p (change.Completed c.args.block c.args.bytes) c.self.inside.nodes) c.names.ensures.names ∙ ap (row_rewritten c.args.path.now (change.Completed c.args.block c.args.bytes)) c.self.view_is
    ∙ both_done c.args.path.now c.args.block c.args.bytes c.args.self.now
