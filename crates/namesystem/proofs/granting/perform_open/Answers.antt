use Rattle.std.proofs.Common.{◌≡◌, sym, ap, ◌∙◌, ◌++◌, subst}
use Rattle.hdfs_types.specs.declared.op.Op.TheVariants as op
use Rattle.history.specs.Grants.{rows_granted}
use Rattle.flat_rows.specs.Outcome.{step}
use Rattle.flat_rows.specs.declared.verdict.Verdict.TheVariants.{Done}
use Rattle.write_rules.specs.JudgedBlocks.{verdict_of_open, DoesNothing}
use Rattle.namesystem.specs.declared.told.Told.{Told}
use Rattle.namesystem.specs.Told.{IsTold}
use Rattle.namesystem.specs.Performed.{IsPerformed, facts_in}
use Rattle.namesystem.proofs.Performing.{where_ok, performed_not_done}
use Rattle.namesystem.proofs.GrantsPerformed.{nothing_granted, performed_open, open_rows}
use Rattle.namesystem.proofs.granting.perform_open.Goals as goal

pub returns-in-Verdict-clause-ok : goal.returns-in-Verdict-clause-ok
returns-in-Verdict-clause-ok c = λ last exact.
    let what = op.Open c.args.path.now in
    let facts = facts_in last c.args.now c.args.system.now in
    let none = subst DoesNothing c.in-Verdict.is c.in_ok-verdict.ensures.undone in
    let judged : c.in-Verdict.verdict ≡ (step facts c.args.system.now.tree c.args.system.now.users c.args.caller.now what).verdict =
    ap (verdict_of_open facts.token c.args.caller.now facts.blocks) (sym c.in-Verdict.is) ∙ c.in_ok-verdict.ensures.verdict facts in
    where_ok c.with_copy.result (IsTold c.in-Verdict.verdict) (λ (told : Told). IsPerformed last c.args.now c.args.caller.now what c.args.system.now told.verdict c.args.system.now)
    (λ told is. subst (λ v. IsPerformed last c.args.now c.args.caller.now what c.args.system.now v c.args.system.now) (sym is.verdict_is)
    (performed_not_done last c.args.now c.args.caller.now what c.args.system.now c.in-Verdict.verdict judged none exact))
    c.with_copy.ensures.ok

pub returns-in-Verdict-clause-ledger : goal.returns-in-Verdict-clause-ledger
returns-in-Verdict-clause-ledger c =
    let what = op.Open c.args.path.now in
    let none = subst DoesNothing c.in-Verdict.is c.in_ok-verdict.ensures.undone in
    where_ok c.with_copy.result (IsTold c.in-Verdict.verdict)
    (λ (told : Told). c.args.ledger.now.rows ≡ c.args.ledger.now.rows ++ rows_granted c.args.place c.args.system.now.ring c.args.now c.args.caller.now what told.verdict)
    (λ told is. subst (λ v. c.args.ledger.now.rows ≡ c.args.ledger.now.rows ++ rows_granted c.args.place c.args.system.now.ring c.args.now c.args.caller.now what v) (sym is.verdict_is)
    (nothing_granted c.args.place c.args.system.now.ring c.args.now c.args.caller.now what c.in-Verdict.verdict c.args.ledger.now.rows none))
    c.with_copy.ensures.ok

pub returns-in_ok-given-in-File-clause-ok : goal.returns-in_ok-given-in-File-clause-ok
returns-in_ok-given-in-File-clause-ok c = λ last exact.
    let facts = facts_in last c.args.now c.args.system.now in
    performed_open last c.args.now c.args.caller.now c.args.path.now c.args.system.now c.in-File.file.now.blocks c.told_of_file.result.verdict
    (ap (verdict_of_open facts.token c.args.caller.now facts.blocks) (sym c.in-File.is) ∙ c.in_ok-verdict.ensures.verdict facts)
    (c.told_of_file.ensures.verdict ∙ ap (λ r. Done r) c.in_ok-given-in-File.ensures.opened) exact

pub returns-in_ok-given-in-File-clause-ledger : goal.returns-in_ok-given-in-File-clause-ledger
returns-in_ok-given-in-File-clause-ledger c =
    open_rows c.args.place c.args.system.now.ring c.args.now c.args.caller.now c.args.path.now c.args.system.now.blocks c.in-File.file.now.blocks c.told_of_file.result.verdict c.args.ledger.now.rows c.open_file.new.ledger.rows
    (c.told_of_file.ensures.verdict ∙ ap (λ r. Done r) c.in_ok-given-in-File.ensures.opened) c.in_ok-given-in-File.ensures.ledger
