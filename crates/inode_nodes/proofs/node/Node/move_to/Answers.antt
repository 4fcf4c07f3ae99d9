use Rattle.std.proofs.Common.{◌≡◌, ◌∙◌, ap, [], ◌∷◌, ◌++◌}
use Rattle.inode_nodes.specs.Node.{with_rows}
use Rattle.inode_nodes.specs.Change.{branch_grafted}
use Rattle.inode_nodes.proofs.Moves.{moved_rows, taken_some, fill_there}
use Rattle.inode_nodes.proofs.node.Node.move_to.Goals as goal

pub unreachable-requires : goal.unreachable-requires
unreachable-requires c =
    let put : c.put.new.self ≡ with_rows c.args.self.now (branch_grafted (c.args.above.now ++ c.args.name.now ∷ []) c.in_ok-stand_in.stand_in c.args.self.now.beneath) =
    c.in_ok-put.ensures.ok ∙ ap (λ n. with_rows c.args.self.now (branch_grafted (c.args.above.now ++ n ∷ []) c.in_ok-stand_in.stand_in c.args.self.now.beneath)) c.in_ok-own_name.ensures.cases in
    taken_some c.args.first.now c.args.rest.now c.args.above.now c.args.name.now c.args.self.now c.put.new.self c.in_ok-stand_in.stand_in c.take.result c.requires.apart c.requires.beside c.in_ok-stand_in.ensures put c.take.ensures.whole c.in_default.is
    c.requires.there

pub fill-requires : goal.fill-requires
fill-requires c =
    let put : c.put.new.self ≡ with_rows c.args.self.now (branch_grafted (c.args.above.now ++ c.args.name.now ∷ []) c.in_ok-stand_in.stand_in c.args.self.now.beneath) =
    c.in_ok-put.ensures.ok ∙ ap (λ n. with_rows c.args.self.now (branch_grafted (c.args.above.now ++ n ∷ []) c.in_ok-stand_in.stand_in c.args.self.now.beneath)) c.in_ok-own_name.ensures.cases in
    fill_there c.args.first.now c.args.rest.now c.args.above.now c.args.name.now c.args.self.now c.put.new.self c.take.new.self c.in_ok-stand_in.stand_in c.requires.beside put c.take.ensures.rows

pub returns-clause-ok : goal.returns-clause-ok
returns-clause-ok c =
    let put : c.put.new.self ≡ with_rows c.args.self.now (branch_grafted (c.args.above.now ++ c.args.name.now ∷ []) c.in_ok-stand_in.stand_in c.args.self.now.beneath) =
    c.in_ok-put.ensures.ok ∙ ap (λ n. with_rows c.args.self.now (branch_grafted (c.args.above.now ++ n ∷ []) c.in_ok-stand_in.stand_in c.args.self.now.beneath)) c.in_ok-own_name.ensures.cases in
    moved_rows c.args.first.now c.args.rest.now c.args.above.now c.args.name.now c.args.self.now c.put.new.self c.take.new.self c.fill.new.self c.in_ok-stand_in.stand_in c.in-Some.moved c.take.result c.requires.apart c.requires.beside
    c.in_ok-stand_in.ensures put c.take.ensures.whole c.in-Some.is c.take.ensures.rows c.fill.ensures
