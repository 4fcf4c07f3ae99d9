use Rattle.std.proofs.Common.{ap, ◌∙◌}
use Rattle.namespace_rows.specs.declared.row.Change.TheVariants as change
use Rattle.namespace_rows.specs.Changes.{row_rewritten}
use Rattle.file_table.specs.Changed.{file_changed}
use Rattle.inode_tree.proofs.FileBlocks.{edited_tree, all_ended}
use Rattle.inode_tree.proofs.tree.Tree.end_recovery.Goals as goal

pub invariant_of-self : goal.invariant_of-self
invariant_of-self c = edited_tree (file_changed (change.Recovered c.args.block c.args.bytes)) c.names.result.now c.self.inside.nodes c.change_file-place.new.self c.self.invariant c.change_file-place.ensures

pub returns-clause-all : goal.returns-clause-all
returns-clause-all c = λ nowhere.
    c.change_file-place.ensures ∙ ap (λ p. row_rewritten p (change.Recovered c.args.block c.args.bytes) c.self.inside.nodes) c.names.ensures.names ∙ ap (row_rewritten c.args.path.now (change.Recovered c.args.block c.args.bytes)) c.self.view_is
    ∙ all_ended c.args.path.now c.args.block c.args.bytes c.args.self.now nowhere
