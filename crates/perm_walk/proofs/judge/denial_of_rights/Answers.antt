use Rattle.std.proofs.Common.{◌≡◌, subst}
use Rattle.std.specs.Prelude.{IfOk}
use Rattle.flat_rows.specs.Decision.{rows_in_role}
use Rattle.perm_walk.proofs.Denials.{denied_there, denied_nowhere}
use Rattle.perm_walk.proofs.judge.denial_of_rights.Goals as goal

pub returns-in-Some-clause-denial : goal.returns-in-Some-clause-denial
returns-in-Some-clause-denial c =
    let read = c.in_ok-row.ensures.row in
    subst (λ denial. IfOk c.at.result (λ found. found ≡ denial))
    (denied_there c.args.caller.now c.requires.judged c.args.asked c.args.tree.now c.args.demand.now.need c.requires.need (rows_in_role c.args.demand.now.role c.args.demand.now.path c.args.tree.now) c.in_ok-row.field-0 read c.in-Some.row c.name.result.now c.in-Some.is)
    (rw (c.need.ensures, c.name-in-Some.ensures, c.groups.ensures) at c.at.ensures)

pub returns-in-None-clause-denial : goal.returns-in-None-clause-denial
returns-in-None-clause-denial c =
    let read = c.in_ok-row.ensures.row in
    denied_nowhere c.args.caller.now c.requires.judged c.args.asked c.args.tree.now c.args.demand.now.need c.requires.need (rows_in_role c.args.demand.now.role c.args.demand.now.path c.args.tree.now) c.in_ok-row.field-0 read c.in-None.is
