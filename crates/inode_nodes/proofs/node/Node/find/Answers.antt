use Rattle.std.proofs.Common.{None, Some, ap, drop, ◌+◌, refl, sym, subst}
use Rattle.std.proofs.lemmas.List.{drop_all}
use Rattle.std.specs.Option.{option_copied}
use Rattle.inode_nodes.specs.Node.{rows_or}
use Rattle.inode_nodes.specs.Part.{IsWhole}
use Rattle.inode_nodes.proofs.Parts.{whole_onward, whole_itself}
use Rattle.inode_nodes.proofs.node.Node.find.Goals as goal

pub returns-in-None : goal.returns-in-None
returns-in-None c =
    c.loop-name.invariant None
    (whole_onward c.args.path.now c.loop-name.name-index c.name-item.result c.loop-name.node.now (option_copied c.child.result) None c.loop-name-test.true c.name-item.is c.child.ensures.part
    (subst (λ o. IsWhole (drop (c.loop-name.name-index + 1) c.args.path.now) (rows_or o) None) (sym (ap option_copied c.in-None.is)) refl))

pub loop-name-preserved : goal.loop-name-preserved
loop-name-preserved c part whole =
    c.loop-name.invariant part
    (whole_onward c.args.path.now c.loop-name.name-index c.name-item.result c.loop-name.node.now (option_copied c.child.result) part c.loop-name-test.true c.name-item.is c.child.ensures.part
    (subst (λ o. IsWhole (drop (c.loop-name.name-index + 1) c.args.path.now) (rows_or o) part) (sym (ap option_copied c.in-Some.is)) whole))

pub returns : goal.returns
returns c = c.loop-name.invariant (Some c.loop-name.node.now) (whole_itself (drop c.loop-name.name-index c.args.path.now) (Some c.loop-name.node.now) (drop_all c.loop-name.name-index c.args.path.now c.loop-name-test.false))
