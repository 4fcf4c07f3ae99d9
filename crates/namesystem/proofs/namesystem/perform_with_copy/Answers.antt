use Rattle.std.proofs.Common.{◌≡◌, false, ◌++◌, sym, ap, ◌∙◌, subst}
use Rattle.std.proofs.lemmas.List.{append-nil}
use Rattle.std.specs.Result.{IfOk}
use Rattle.hdfs_types.specs.Verb.{op_of}
use Rattle.required_rights.specs.RequiredRights.{required_rights}
use Rattle.flat_rows.specs.Outcome.{Step}
use Rattle.history.specs.Grants.{rows_granted}
use Rattle.namesystem.specs.Told.{is_told_before}
use Rattle.namesystem.specs.Performed.{IsPerformed, facts_in}
use Rattle.namesystem.proofs.Performing.{on_err}
use Rattle.namesystem.proofs.GrantRows.{is_grant, no_grant, no_rows, told_behind}
use Rattle.namesystem.proofs.namesystem.perform_with_copy.Goals as goal

pub returns-clause-ok : goal.returns-clause-ok
returns-clause-ok c = λ last exact.
    subst (λ verdict. IsPerformed last c.args.now c.args.request.now.caller c.args.request.now.op c.args.system.now verdict c.perform.new.system) (sym c.in_ok-told.ensures.ok.verdict_is) (c.in_ok-verdict.ensures.ok last exact)

pub returns-clause-copy : goal.returns-clause-copy
returns-clause-copy c = c.in_ok-told.ensures.ok.copy ∙ sym c.in_ok-told.ensures.ok.verdict_is

pub returns-clause-ledger : goal.returns-clause-ledger
returns-clause-ledger c =
    c.in_ok-verdict.ensures.ledger
    ∙ ap (λ verdict. c.args.ledger.now.rows ++ rows_granted c.args.place c.args.system.now.ring c.args.now c.args.request.now.caller c.args.request.now.op verdict) (sym c.in_ok-told.ensures.ok.verdict_is)

-- a verdict that can't be copied tells no list
behind : (c : goal.After-from_residual-in_err-told) → is_grant c.args.request.now.op ≡ false
behind c = ap is_grant (sym c.verb.ensures) ∙ no_grant c.verb.result c.in_default.not-Grant

pub returns-in_err-told-clause-err : goal.returns-in_err-told-clause-err
returns-in_err-told-clause-err c = λ last exact.
    let performed = c.in_ok-verdict.ensures.ok last exact in
    on_err c.from_residual-in_err-told.result
    (performed.unchanged (c.in_err-told.ensures.err
    (ap (λ (s : Step). is_told_before s.verdict) performed.stepped
    ∙ told_behind (facts_in last c.args.now c.args.system.now) c.args.system.now.tree c.args.system.now.users c.args.request.now.caller c.args.request.now.op (behind c))))

pub returns-in_err-told-clause-err_ledger : goal.returns-in_err-told-clause-err_ledger
returns-in_err-told-clause-err_ledger c =
    on_err c.from_residual-in_err-told.result
    (c.in_ok-verdict.ensures.ledger
    ∙ (ap (λ rows. c.args.ledger.now.rows ++ rows) (no_rows c.args.place c.args.system.now.ring c.args.now c.args.request.now.caller c.args.request.now.op c.in_ok-verdict.verdict (behind c))
    ∙ append-nil c.args.ledger.now.rows))

pub perform_grant-requires : goal.perform_grant-requires
perform_grant-requires c = c.in_ok-required.ensures ∙ ap required_rights (sym c.verb.ensures ∙ ap op_of c.in-Grant.is)

pub returns-in-Grant-clause-ok : goal.returns-in-Grant-clause-ok
returns-in-Grant-clause-ok c = λ last exact.
    subst (λ what. IfOk c.perform_grant.result (λ told. IsPerformed last c.args.now c.args.request.now.caller what c.args.system.now told.verdict c.perform_grant.new.system)) (sym (ap op_of c.in-Grant.is) ∙ c.verb.ensures) (c.perform_grant.ensures.ok last exact)

pub returns-in-Grant-clause-ledger : goal.returns-in-Grant-clause-ledger
returns-in-Grant-clause-ledger c =
    subst (λ what. IfOk c.perform_grant.result (λ told. c.perform_grant.new.ledger.rows ≡ c.args.ledger.now.rows ++ rows_granted c.args.place c.args.system.now.ring c.args.now c.args.request.now.caller what told.verdict)) (sym (ap op_of c.in-Grant.is) ∙ c.verb.ensures) c.perform_grant.ensures.ledger
