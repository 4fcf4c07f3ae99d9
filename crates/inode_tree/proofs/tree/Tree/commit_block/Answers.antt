use Rattle.std.proofs.Common.{ap, ◌∙◌}
use Rattle.namespace_rows.specs.declared.row.Change.TheVariants as change
use Rattle.namespace_rows.specs.Rows.{row_at}
use Rattle.namespace_rows.specs.Changes.{row_rewritten}
use Rattle.inode_tree.proofs.FileBlocks.{committing_suits, committed_as_before}
use Rattle.inode_tree.proofs.Trees.{rewrite_keeps}
use Rattle.inode_tree.proofs.tree.Tree.commit_block.Goals as goal

pub invariant_of-self : goal.invariant_of-self
invariant_of-self c =
    rewrite_keeps c.args.path.now c.names.result.now c.names.ensures.names c.self.inside.nodes c.args.self.now c.self.view_is c.self.invariant (change.Committed c.args.block c.args.bytes) c.change_file-place.new.self
    (committing_suits c.args.block c.args.bytes (row_at c.args.path.now c.args.self.now)) c.change_file-place.ensures

pub returns-clause-as_before : goal.returns-clause-as_before
returns-clause-as_before c =
    λ added before other was. committed_as_before c.args.path.now c.args.block c.args.bytes added other c.args.self.now c.change_file-place.new.self before
    (c.change_file-place.ensures ∙ ap (λ p. row_rewritten p (change.Committed c.args.block c.args.bytes) c.self.inside.nodes) c.names.ensures.names ∙ ap (row_rewritten c.args.path.now (change.Committed c.args.block c.args.bytes)) c.self.view_is) was
