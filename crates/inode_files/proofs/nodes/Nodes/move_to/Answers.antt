use Rattle.std.proofs.Common.{◌∙◌, ◌∷◌, [], ◌++◌}
use Rattle.flat_rows.proofs.Missing.{missing_above}
use Rattle.inode_nodes.specs.Node.{rows}
use Rattle.inode_nodes.proofs.Through.{on_ok}
use Rattle.inode_files.proofs.KeptChanges.{own_missing, own_parent, kept_moved, seen_moved}
use Rattle.inode_files.proofs.nodes.Nodes.move_to.Goals as goal

pub move_to-requires-clause-there : goal.move_to-requires-clause-there
move_to-requires-clause-there c = own_missing c.self.inside.files (rows c.self.inside.root) c.args.self.now c.self.view_is (c.args.first.now ∷ c.args.rest.now) ∙ c.requires.there

pub move_to-requires-clause-parent : goal.move_to-requires-clause-parent
move_to-requires-clause-parent c = own_parent c.self.inside.files (rows c.self.inside.root) c.args.self.now c.self.view_is (c.args.above.now ++ c.args.name.now ∷ []) ∙ c.requires.parent

pub move_to-requires-clause-apart : goal.move_to-requires-clause-apart
move_to-requires-clause-apart c = missing_above c.args.self.now (c.args.first.now ∷ c.args.rest.now) (c.args.above.now ++ c.args.name.now ∷ []) c.requires.namespace c.requires.there c.requires.free

pub invariant_of-self : goal.invariant_of-self
invariant_of-self c =
    kept_moved c.self.inside.files c.self.inside.root c.move_to.new.self c.args.self.now c.self.view_is (c.args.first.now ∷ c.args.rest.now) (c.args.above.now ++ c.args.name.now ∷ [])
    c.move_to.result c.self.invariant c.requires.namespace c.requires.free c.move_to.ensures.ok c.move_to.ensures.err

pub returns-clause-ok : goal.returns-clause-ok
returns-clause-ok c =
    on_ok c.move_to.result
    (seen_moved c.self.inside.files c.self.inside.root c.move_to.new.self c.args.self.now c.self.view_is (c.args.first.now ∷ c.args.rest.now) (c.args.above.now ++ c.args.name.now ∷ []))
    c.move_to.ensures.ok
