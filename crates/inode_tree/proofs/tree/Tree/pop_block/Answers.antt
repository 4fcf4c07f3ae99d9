use Rattle.std.proofs.Common.{ap, ◌∙◌}
use Rattle.namespace_rows.specs.declared.row.Change.TheVariants as change
use Rattle.namespace_rows.specs.Rows.{row_at}
use Rattle.namespace_rows.specs.Changes.{row_rewritten}
use Rattle.inode_tree.proofs.FileBlocks.{taking_suits, undone}
use Rattle.inode_tree.proofs.Trees.{rewrite_keeps}
use Rattle.inode_tree.proofs.tree.Tree.pop_block.Goals as goal

pub invariant_of-self : goal.invariant_of-self
invariant_of-self c =
    rewrite_keeps c.args.path.now c.names.result.now c.names.ensures.names c.self.inside.nodes c.args.self.now c.self.view_is c.self.invariant change.LastTaken c.change_file-place.new.self
    (taking_suits (row_at c.args.path.now c.args.self.now)) c.change_file-place.ensures

pub returns-clause-undone : goal.returns-clause-undone
returns-clause-undone c =
    λ block before added. undone c.args.path.now block c.args.self.now c.change_file-place.new.self before
    (c.change_file-place.ensures ∙ ap (λ p. row_rewritten p change.LastTaken c.self.inside.nodes) c.names.ensures.names ∙ ap (row_rewritten c.args.path.now change.LastTaken) c.self.view_is) added
