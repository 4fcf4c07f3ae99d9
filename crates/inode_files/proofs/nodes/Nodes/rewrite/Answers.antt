use Rattle.std.proofs.Common.{◌∙◌, ap, sym, subst}
use Rattle.namespace_rows.specs.Changes.{row_rewritten}
use Rattle.file_table.specs.Kept.{AreKept}
use Rattle.file_table.specs.Seen.{seen_rows}
use Rattle.inode_nodes.specs.Change.{change_of}
use Rattle.inode_nodes.specs.Node.{rows}
use Rattle.inode_files.proofs.SeenParts.{seen_given, kept_given}
use Rattle.inode_files.proofs.nodes.Nodes.rewrite.Goals as goal

pub invariant_of-self : goal.invariant_of-self
invariant_of-self c = subst (AreKept c.self.inside.files) (sym c.rewrite.ensures) (kept_given c.self.inside.files c.args.path.now c.args.given (rows c.self.inside.root) c.self.invariant)

pub returns : goal.returns
returns c =
    ap (seen_rows c.self.inside.files) c.rewrite.ensures ∙ seen_given c.self.inside.files c.args.path.now c.args.given (rows c.self.inside.root) ∙ ap (row_rewritten c.args.path.now (change_of c.args.given)) c.self.view_is
