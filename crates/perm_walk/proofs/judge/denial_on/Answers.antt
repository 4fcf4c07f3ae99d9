use Rattle.std.proofs.Common.{◌≡◌, ◌∙◌, ap, sym, subst}
use Rattle.std.specs.Prelude.{IfOk}
use Rattle.flat_rows.specs.Decision.{condition_holds, denial_of}
use Rattle.namespace_rows.specs.First.{first_answer}
use Rattle.perm_walk.proofs.Denials.{denied_final, is_of_final, asks_of_final}
use Rattle.perm_walk.proofs.judge.denial_on.Goals as goal

pub returns-in_default-clause-denial : goal.returns-in_default-clause-denial
returns-in_default-clause-denial c =
    let role = is_of_final c.args.demand.now c.path-path.ensures.demand (λ asked is. c.in_default.not-Rights asked (c.need.ensures ∙ is)) in
    let held = sym (ap (λ k. condition_holds k c.args.demand.now.path c.args.tree.now) c.condition.ensures) ∙ sym (c.holds.ensures c.args.demand.now.path c.args.tree.now c.requires.reach) ∙ c.if-not-holds.false in
    subst (λ denial. IfOk c.denial_at_final.result (λ found. found ≡ denial))
    (denied_final c.args.caller.now c.requires.judged c.args.demand.now.path c.args.tree.now c.args.demand.now.need c.args.reach.now c.requires.reach
    ∙ ap (first_answer (denial_of c.args.caller.now)) (sym (asks_of_final c.args.demand.now c.args.tree.now role held)))
    (rw c.need.ensures at c.denial_at_final.ensures)
