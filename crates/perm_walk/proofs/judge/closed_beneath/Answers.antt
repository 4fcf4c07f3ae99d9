use Rattle.std.proofs.Common.{◌≡◌, ◌∙◌, sym, subst}
use Rattle.std.specs.Prelude.{IfOk}
use Rattle.namespace_rows.specs.Changes.{rows_under}
use Rattle.perm_walk.proofs.Denials.{closed_first}
use Rattle.perm_walk.proofs.Opened.{opened_none, opened_counted}
use Rattle.perm_walk.proofs.judge.closed_beneath.Goals as goal

pub returns-clause-row : goal.returns-clause-row
returns-clause-row c =
    subst (λ row. IfOk c.first_closed.result (λ found. found ≡ row)) (closed_first c.args.caller.now c.args.asked c.args.path.now c.args.tree.now) (rw (c.name-2.ensures, c.groups-2.ensures) at c.first_closed.ensures)

pub returns-in-Some-clause-row : goal.returns-in-Some-clause-row
returns-in-Some-clause-row c =
    opened_none c.args.caller.now.name c.args.caller.now.groups c.args.asked (rows_under c.args.path.now c.args.tree.now) c.in-Some.all (sym (rw (c.name.ensures, c.groups.ensures) at c.count_open.ensures) ∙ c.in-Some.is)
    ∙ closed_first c.args.caller.now c.args.asked c.args.path.now c.args.tree.now

pub returns-in-Some-clause-counted : goal.returns-in-Some-clause-counted
returns-in-Some-clause-counted c =
    opened_counted c.args.caller.now.name c.args.caller.now.groups c.args.asked c.args.path.now c.args.tree.now c.in-Some.all (sym (rw (c.name.ensures, c.groups.ensures) at c.count_open.ensures) ∙ c.in-Some.is)
