use Rattle.std.proofs.Common.{◌≡◌, true, subst}
use Rattle.namespace_rows.specs.declared.row.Change.TheVariants as change
use Rattle.namespace_rows.specs.Rows.{row_at}
use Rattle.namespace_rows.specs.Changes.{suits_change}
use Rattle.file_table.specs.Changed.{file_changed}
use Rattle.inode_tree.proofs.FileBlocks.{edited_tree}
use Rattle.inode_tree.proofs.Trees.{rewrite_keeps}
use Rattle.inode_tree.proofs.tree.Tree.rewrite.Goals as goal

pub invariant_of-self : goal.invariant_of-self
invariant_of-self c =
    rewrite_keeps c.args.path.now c.names.result.now c.names.ensures.names c.self.inside.nodes c.args.self.now c.self.view_is c.self.invariant (change.Owner c.in-Owner.owner c.in-Owner.group) c.rewrite.new.self
    (subst (λ given. suits_change given (row_at c.args.path.now c.args.self.now) ≡ true) c.in-Owner.is c.requires) c.rewrite.ensures

pub invariant_of-self-in-List : goal.invariant_of-self-in-List
invariant_of-self-in-List c =
    rewrite_keeps c.args.path.now c.names-in-List.result.now c.names-in-List.ensures.names c.self.inside.nodes c.args.self.now c.self.view_is c.self.invariant (change.List c.in-List.acl) c.rewrite-in-List.new.self
    (subst (λ given. suits_change given (row_at c.args.path.now c.args.self.now) ≡ true) c.in-List.is c.requires) c.rewrite-in-List.ensures

pub invariant_of-self-in_default : goal.invariant_of-self-in_default
invariant_of-self-in_default c = edited_tree (file_changed c.args.change) c.names-in_default.result.now c.self.inside.nodes c.change_file-place.new.self c.self.invariant c.change_file-place.ensures
