use Rattle.std.proofs.Common.{◌≡◌, refl, sym, ap, ◌∙◌, ◌++◌, subst}
use Rattle.hdfs_types.specs.declared.op.Op.TheVariants as op
use Rattle.history.specs.Grants.{rows_granted}
use Rattle.namespace_rows.specs.Rows.{row_at}
use Rattle.flat_rows.specs.Outcome.{step}
use Rattle.flat_rows.specs.declared.verdict.Verdict.TheVariants.{Done}
use Rattle.write_rules.specs.JudgedBlocks.{verdict_of_new, IsPlanned}
use Rattle.namesystem.specs.declared.told.Told.{Told}
use Rattle.namesystem.specs.Told.{IsTold}
use Rattle.namesystem.specs.Performed.{IsPerformed, facts_in}
use Rattle.namesystem.proofs.Performing.{where_ok, performed_not_done}
use Rattle.namesystem.proofs.GrantsPerformed.{nothing_granted, performed_block, block_rows}
use Rattle.namesystem.proofs.granting.perform_add_block.Goals as goal

pub returns-in-Verdict-clause-ok : goal.returns-in-Verdict-clause-ok
returns-in-Verdict-clause-ok c = λ last exact.
    let what = op.AddBlock c.args.path.now c.args.last in
    let facts = facts_in last c.args.now c.args.system.now in
    let none = subst (IsPlanned c.args.system.now.blocks c.args.now c.args.last (row_at c.args.path.now c.args.system.now.tree)) c.in-Verdict.is c.in_ok-judged.ensures.planned in
    let judged : c.in-Verdict.verdict ≡ (step facts c.args.system.now.tree c.args.system.now.users c.args.caller.now what).verdict =
    ap (verdict_of_new facts.token c.args.caller.now) (sym c.in-Verdict.is) ∙ c.in_ok-judged.ensures.verdict facts refl refl in
    where_ok c.with_copy.result (IsTold c.in-Verdict.verdict) (λ (told : Told). IsPerformed last c.args.now c.args.caller.now what c.args.system.now told.verdict c.args.system.now)
    (λ told is. subst (λ v. IsPerformed last c.args.now c.args.caller.now what c.args.system.now v c.args.system.now) (sym is.verdict_is)
    (performed_not_done last c.args.now c.args.caller.now what c.args.system.now c.in-Verdict.verdict judged none exact))
    c.with_copy.ensures.ok

pub returns-in-Verdict-clause-ledger : goal.returns-in-Verdict-clause-ledger
returns-in-Verdict-clause-ledger c =
    let what = op.AddBlock c.args.path.now c.args.last in
    let none = subst (IsPlanned c.args.system.now.blocks c.args.now c.args.last (row_at c.args.path.now c.args.system.now.tree)) c.in-Verdict.is c.in_ok-judged.ensures.planned in
    where_ok c.with_copy.result (IsTold c.in-Verdict.verdict)
    (λ (told : Told). c.args.ledger.now.rows ≡ c.args.ledger.now.rows ++ rows_granted c.args.place c.args.system.now.ring c.args.now c.args.caller.now what told.verdict)
    (λ told is. subst (λ v. c.args.ledger.now.rows ≡ c.args.ledger.now.rows ++ rows_granted c.args.place c.args.system.now.ring c.args.now c.args.caller.now what v) (sym is.verdict_is)
    (nothing_granted c.args.place c.args.system.now.ring c.args.now c.args.caller.now what c.in-Verdict.verdict c.args.ledger.now.rows none))
    c.with_copy.ensures.ok

pub returns-in_ok-given-in-New-clause-ok : goal.returns-in_ok-given-in-New-clause-ok
returns-in_ok-given-in-New-clause-ok c = λ last exact.
    let facts = facts_in last c.args.now c.args.system.now in
    let planned = subst (IsPlanned c.args.system.now.blocks c.args.now c.args.last (row_at c.args.path.now c.args.system.now.tree)) c.in-New.is c.in_ok-judged.ensures.planned in
    performed_block last c.args.now c.args.caller.now c.args.path.now c.args.last c.args.system.now c.in-New.new c.in-New.replication planned.1 planned.0 c.give_block.new.tree c.give_block.new.blocks c.told_of_block.result.verdict
    (ap (verdict_of_new facts.token c.args.caller.now) (sym c.in-New.is) ∙ c.in_ok-judged.ensures.verdict facts refl refl)
    (c.told_of_block.ensures.verdict ∙ ap (λ r. Done r) c.in_ok-given-in-New.ensures.added) c.in_ok-given-in-New.ensures.tree c.in_ok-given-in-New.ensures.blocks (c.in_ok-given-in-New.ensures.exact last c.args.system.now.writers exact)

pub returns-in_ok-given-in-New-clause-ledger : goal.returns-in_ok-given-in-New-clause-ledger
returns-in_ok-given-in-New-clause-ledger c =
    block_rows c.args.place c.args.system.now.ring c.args.now c.args.caller.now c.args.path.now c.args.last c.in-New.new c.told_of_block.result.verdict c.args.ledger.now.rows c.give_block.new.ledger.rows
    (c.told_of_block.ensures.verdict ∙ ap (λ r. Done r) c.in_ok-given-in-New.ensures.added) c.in_ok-given-in-New.ensures.ledger
