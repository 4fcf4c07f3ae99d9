use Rattle.std.proofs.Common.{[], ◌∷◌, ◌++◌, ◌∙◌, sym}
use Rattle.inode_tree.proofs.Trees.{no_parent_above, move_keeps, move_there, move_free, move_parent, move_beside}
use Rattle.inode_tree.proofs.tree.Tree.move_to.Goals as goal

pub unreachable-requires-in_default-split_last : goal.unreachable-requires-in_default-split_last
unreachable-requires-in_default-split_last c = no_parent_above c.args.to.now c.args.self.now (rw c.names-2.ensures.names at c.in_default-split_last.ensures.cases) c.requires.parent

pub move_to-requires-clause-there : goal.move_to-requires-clause-there
move_to-requires-clause-there c =
    move_there c.args.from.now c.args.to.now (c.in-Some.first.now ∷ c.in-Some.rest.now) (c.in-Some-split_last.above.now ++ c.in-Some-split_last.name.now ∷ []) (sym c.in-Some.ensures.cases.0 ∙ c.names.ensures.names)
    (sym c.in-Some-split_last.ensures.cases.0 ∙ c.names-2.ensures.names) c.self.inside.nodes c.args.self.now c.self.view_is c.self.invariant c.requires.there

pub move_to-requires-clause-free : goal.move_to-requires-clause-free
move_to-requires-clause-free c =
    move_free c.args.from.now c.args.to.now (c.in-Some.first.now ∷ c.in-Some.rest.now) (c.in-Some-split_last.above.now ++ c.in-Some-split_last.name.now ∷ []) (sym c.in-Some.ensures.cases.0 ∙ c.names.ensures.names)
    (sym c.in-Some-split_last.ensures.cases.0 ∙ c.names-2.ensures.names) c.self.inside.nodes c.args.self.now c.self.view_is c.self.invariant c.requires.free

pub move_to-requires-clause-parent : goal.move_to-requires-clause-parent
move_to-requires-clause-parent c =
    move_parent c.args.from.now c.args.to.now (c.in-Some.first.now ∷ c.in-Some.rest.now) (c.in-Some-split_last.above.now ++ c.in-Some-split_last.name.now ∷ []) (sym c.in-Some.ensures.cases.0 ∙ c.names.ensures.names)
    (sym c.in-Some-split_last.ensures.cases.0 ∙ c.names-2.ensures.names) c.self.inside.nodes c.args.self.now c.self.view_is c.self.invariant c.requires.parent

pub move_to-requires-clause-beside : goal.move_to-requires-clause-beside
move_to-requires-clause-beside c =
    move_beside c.args.from.now c.args.to.now (c.in-Some.first.now ∷ c.in-Some.rest.now) (c.in-Some-split_last.above.now ++ c.in-Some-split_last.name.now ∷ []) (sym c.in-Some.ensures.cases.0 ∙ c.names.ensures.names)
    (sym c.in-Some-split_last.ensures.cases.0 ∙ c.names-2.ensures.names) c.self.inside.nodes c.args.self.now c.self.view_is c.self.invariant c.requires.beside

pub invariant_of-self : goal.invariant_of-self
invariant_of-self c =
    move_keeps c.args.from.now c.args.to.now (c.in-Some.first.now ∷ c.in-Some.rest.now) (c.in-Some-split_last.above.now ++ c.in-Some-split_last.name.now ∷ []) (sym c.in-Some.ensures.cases.0 ∙ c.names.ensures.names)
    (sym c.in-Some-split_last.ensures.cases.0 ∙ c.names-2.ensures.names) c.self.inside.nodes c.args.self.now c.self.view_is c.self.invariant c.move_to.result c.move_to.new.self c.requires.parent c.requires.beside c.requires.within c.move_to.ensures.ok
    c.move_to.ensures.err
