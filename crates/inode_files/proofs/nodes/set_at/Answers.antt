use Rattle.std.proofs.Common.{◌∙◌, ◌∷◌, [], ◌++◌, Some, None, refl, sym, ap}
use Rattle.namespace_rows.specs.Namespace.{has_parent}
use Rattle.inode_nodes.specs.Node.{rows}
use Rattle.inode_files.proofs.KeptChanges.{no_parent_of_root, part_there, whole_there, grafted, exchanged}
use Rattle.inode_files.proofs.nodes.set_at.Goals as goal

pub unreachable-requires : goal.unreachable-requires
unreachable-requires c = no_parent_of_root c.args.path.now (rows c.args.root.now) c.in_default.ensures.cases c.requires.parent

pub fill-requires : goal.fill-requires
fill-requires c =
    part_there c.args.path.now c.in-Some.above.now c.in-Some.name.now c.args.root.now c.in-Some.ensures.cases.0 (whole_there c.args.path.now (rows c.args.root.now) c.in-Some-find.there.now c.in-Some-find.ensures)

pub returns-in-Some-find-clause-ok_files : goal.returns-in-Some-find-clause-ok_files
returns-in-Some-find-clause-ok_files c =
    exchanged c.args.path.now (rows c.args.root.now) (Some c.in-Some-find.there.now) c.in-Some-find.ensures c.args.file c.args.files.now c.keep.new.files c.forget.new.files c.keep.ensures c.forget.ensures

pub returns-in-Some-find-clause-ok_rows : goal.returns-in-Some-find-clause-ok_rows
returns-in-Some-find-clause-ok_rows c =
    grafted c.args.path.now c.in-Some.above.now c.in-Some.name.now c.args.root.now c.args.node c.fill.new.self c.in-Some.ensures.cases.0 c.fill.ensures

pub put-requires : goal.put-requires
put-requires c =
    ap (λ p. has_parent p (rows c.args.root.now)) (ap (λ n. c.in-Some.above.now ++ n ∷ []) c.in_ok-clone.ensures.cases ∙ sym c.in-Some.ensures.cases.0) ∙ c.requires.parent

pub returns-clause-ok_files : goal.returns-clause-ok_files
returns-clause-ok_files c =
    exchanged c.args.path.now (rows c.args.root.now) None c.in_default-find.ensures c.args.file c.args.files.now c.keep-2.new.files c.keep-2.new.files c.keep-2.ensures (λ k. refl)

pub returns-clause-ok_rows : goal.returns-clause-ok_rows
returns-clause-ok_rows c =
    grafted c.args.path.now c.in-Some.above.now c.in_ok-clone.field-0 c.args.root.now c.args.node c.put.new.self
    (c.in-Some.ensures.cases.0 ∙ ap (λ n. c.in-Some.above.now ++ n ∷ []) (sym c.in_ok-clone.ensures.cases)) c.in_ok-put.ensures.ok
