use Rattle.std.proofs.Common.{◌≡◌, ◌∙◌, Some, sym, ap, subst}
use Rattle.std.specs.Prelude.{IfOk}
use Rattle.perm_walk.proofs.Denials.{traversal_granted, traversal_denied}
use Rattle.perm_walk.proofs.judge.denial_on_the_way.Goals as goal

pub returns-in-Reached-clause-denial : goal.returns-in-Reached-clause-denial
returns-in-Reached-clause-denial c =
    traversal_granted c.args.caller.now c.requires.judged c.args.asked c.args.demand.now c.args.descent.now.path.now c.args.tree.now c.requires.traversal c.requires.on c.in-Reached.ensures.granted

pub returns-clause-denial : goal.returns-clause-denial
returns-clause-denial c =
    subst (λ denial. IfOk c.at.result (λ found. found ≡ denial))
    (traversal_denied c.args.caller.now c.requires.judged c.args.asked c.args.demand.now c.args.descent.now.path.now c.args.tree.now c.requires.traversal c.requires.on c.in_ok-to_row.field-0 c.name.result.now
    (c.in-Closed.ensures ∙ ap Some (sym c.in_ok-to_row.ensures)))
    (rw (c.need.ensures, c.name-2.ensures, c.groups.ensures) at c.at.ensures)
