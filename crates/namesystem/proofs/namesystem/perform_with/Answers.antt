use Rattle.std.proofs.Common.{◌≡◌, ◌∙◌, ◌++◌, sym, ap, subst}
use Rattle.std.specs.Result.{IfOk}
use Rattle.hdfs_types.specs.Verb.{op_of}
use Rattle.required_rights.specs.RequiredRights.{required_rights}
use Rattle.history.specs.Grants.{rows_granted}
use Rattle.namesystem.specs.Performed.{IsPerformed}
use Rattle.namesystem.proofs.GrantRows.{is_grant, ledger_stays, no_grant_read, no_grant_update, no_grant_write}
use Rattle.namesystem.proofs.namesystem.perform_with.Goals as goal

pub perform_read-requires-clause-needs : goal.perform_read-requires-clause-needs
perform_read-requires-clause-needs c = c.requires.needs ∙ ap required_rights (sym c.verb.ensures ∙ ap op_of c.in-Read.is)

pub perform_update-requires-clause-needs : goal.perform_update-requires-clause-needs
perform_update-requires-clause-needs c = c.requires.needs ∙ ap required_rights (sym c.verb.ensures ∙ ap op_of c.in-Update.is)

pub perform_write-requires-clause-needs : goal.perform_write-requires-clause-needs
perform_write-requires-clause-needs c = c.requires.needs ∙ ap required_rights (sym c.verb.ensures ∙ ap op_of c.in-Write.is)

pub perform_roll-requires : goal.perform_roll-requires
perform_roll-requires c = c.requires.needs ∙ ap required_rights (sym c.verb.ensures ∙ ap op_of c.in-RollKey.is)

pub perform_tick-requires-clause-needs : goal.perform_tick-requires-clause-needs
perform_tick-requires-clause-needs c = c.requires.needs ∙ ap required_rights (sym c.verb.ensures ∙ ap op_of c.in-Tick.is)

pub returns-in-Read-clause-ok : goal.returns-in-Read-clause-ok
returns-in-Read-clause-ok c = λ last exact.
    subst (λ what. IfOk c.perform_read.result (λ verdict. IsPerformed last c.args.now c.args.request.now.caller what c.args.system.now verdict c.args.system.now)) (sym (ap op_of c.in-Read.is) ∙ c.verb.ensures) (c.perform_read.ensures last c.args.now exact)

pub returns-in-Update-clause-ok : goal.returns-in-Update-clause-ok
returns-in-Update-clause-ok c = λ last exact.
    subst (λ what. IfOk c.perform_update.result (λ verdict. IsPerformed last c.args.now c.args.request.now.caller what c.args.system.now verdict c.perform_update.new.system)) (sym (ap op_of c.in-Update.is) ∙ c.verb.ensures) (c.perform_update.ensures.ok last c.args.now exact)

pub returns-in-Write-clause-ok : goal.returns-in-Write-clause-ok
returns-in-Write-clause-ok c = λ last exact.
    subst (λ what. IfOk c.perform_write.result (λ verdict. IsPerformed last c.args.now c.args.request.now.caller what c.args.system.now verdict c.perform_write.new.system)) (sym (ap op_of c.in-Write.is) ∙ c.verb.ensures) (c.perform_write.ensures.ok last exact)

pub returns-in-RollKey-clause-ok : goal.returns-in-RollKey-clause-ok
returns-in-RollKey-clause-ok c = λ last exact.
    subst (λ what. IfOk c.perform_roll.result (λ verdict. IsPerformed last c.args.now c.args.request.now.caller what c.args.system.now verdict c.perform_roll.new.system)) (sym (ap op_of c.in-RollKey.is) ∙ c.verb.ensures) (c.perform_roll.ensures.ok last exact)

pub returns-in-Renew-clause-ok : goal.returns-in-Renew-clause-ok
returns-in-Renew-clause-ok c = λ last exact.
    subst (λ what. IfOk c.perform_renewal.result (λ verdict. IsPerformed last c.args.now c.args.request.now.caller what c.args.system.now verdict c.perform_renewal.new.system)) (sym (ap op_of c.in-Renew.is) ∙ c.verb.ensures) (c.perform_renewal.ensures.ok last exact)

pub returns-in-Tick-clause-ok : goal.returns-in-Tick-clause-ok
returns-in-Tick-clause-ok c = λ last exact.
    subst (λ what. IfOk c.perform_tick.result (λ verdict. IsPerformed last c.args.now c.args.request.now.caller what c.args.system.now verdict c.perform_tick.new.system)) (sym (ap op_of c.in-Tick.is) ∙ c.verb.ensures) (c.perform_tick.ensures.ok last exact)

pub perform_granting-requires : goal.perform_granting-requires
perform_granting-requires c = c.requires.needs ∙ ap required_rights (sym c.verb.ensures ∙ ap op_of c.in-Grant.is)

pub perform_replication-requires-clause-needs : goal.perform_replication-requires-clause-needs
perform_replication-requires-clause-needs c = c.requires.needs ∙ ap required_rights (sym c.verb.ensures ∙ ap op_of c.in-SetReplication.is)

pub perform_report-requires : goal.perform_report-requires
perform_report-requires c = c.requires.needs ∙ ap required_rights (sym c.verb.ensures ∙ ap op_of c.in-Reported.is)

pub returns-in-Read-clause-ledger : goal.returns-in-Read-clause-ledger
returns-in-Read-clause-ledger c =
    ledger_stays c.perform_read.result c.args.ledger.now.rows c.args.place c.args.system.now.ring c.args.now c.args.request.now.caller c.args.request.now.op (ap is_grant (sym c.verb.ensures ∙ ap op_of c.in-Read.is) ∙ no_grant_read c.in-Read.read)

pub returns-in-Update-clause-ledger : goal.returns-in-Update-clause-ledger
returns-in-Update-clause-ledger c =
    ledger_stays c.perform_update.result c.args.ledger.now.rows c.args.place c.args.system.now.ring c.args.now c.args.request.now.caller c.args.request.now.op (ap is_grant (sym c.verb.ensures ∙ ap op_of c.in-Update.is) ∙ no_grant_update c.in-Update.update)

pub returns-in-Write-clause-ledger : goal.returns-in-Write-clause-ledger
returns-in-Write-clause-ledger c =
    ledger_stays c.perform_write.result c.args.ledger.now.rows c.args.place c.args.system.now.ring c.args.now c.args.request.now.caller c.args.request.now.op (ap is_grant (sym c.verb.ensures ∙ ap op_of c.in-Write.is) ∙ no_grant_write c.in-Write.write)

pub returns-in-RollKey-clause-ledger : goal.returns-in-RollKey-clause-ledger
returns-in-RollKey-clause-ledger c =
    ledger_stays c.perform_roll.result c.args.ledger.now.rows c.args.place c.args.system.now.ring c.args.now c.args.request.now.caller c.args.request.now.op (ap is_grant (sym c.verb.ensures ∙ ap op_of c.in-RollKey.is))

pub returns-in-Renew-clause-ledger : goal.returns-in-Renew-clause-ledger
returns-in-Renew-clause-ledger c =
    ledger_stays c.perform_renewal.result c.args.ledger.now.rows c.args.place c.args.system.now.ring c.args.now c.args.request.now.caller c.args.request.now.op (ap is_grant (sym c.verb.ensures ∙ ap op_of c.in-Renew.is))

pub returns-in-Tick-clause-ledger : goal.returns-in-Tick-clause-ledger
returns-in-Tick-clause-ledger c =
    ledger_stays c.perform_tick.result c.args.ledger.now.rows c.args.place c.args.system.now.ring c.args.now c.args.request.now.caller c.args.request.now.op (ap is_grant (sym c.verb.ensures ∙ ap op_of c.in-Tick.is))

pub returns-in-Grant-clause-ok : goal.returns-in-Grant-clause-ok
returns-in-Grant-clause-ok c = λ last exact.
    subst (λ what. IfOk c.perform_granting.result (λ verdict. IsPerformed last c.args.now c.args.request.now.caller what c.args.system.now verdict c.perform_granting.new.system)) (sym (ap op_of c.in-Grant.is) ∙ c.verb.ensures) (c.perform_granting.ensures.ok last exact)

pub returns-in-Grant-clause-ledger : goal.returns-in-Grant-clause-ledger
returns-in-Grant-clause-ledger c =
    subst (λ what. IfOk c.perform_granting.result (λ verdict. c.perform_granting.new.ledger.rows ≡ c.args.ledger.now.rows ++ rows_granted c.args.place c.args.system.now.ring c.args.now c.args.request.now.caller what verdict)) (sym (ap op_of c.in-Grant.is) ∙ c.verb.ensures)
    c.perform_granting.ensures.ledger

pub returns-in-SetReplication-clause-ok : goal.returns-in-SetReplication-clause-ok
returns-in-SetReplication-clause-ok c = λ last exact.
    subst (λ what. IfOk c.perform_replication.result (λ verdict. IsPerformed last c.args.now c.args.request.now.caller what c.args.system.now verdict c.perform_replication.new.system)) (sym (ap op_of c.in-SetReplication.is) ∙ c.verb.ensures) (c.perform_replication.ensures.ok last c.args.now exact)

pub returns-in-SetReplication-clause-ledger : goal.returns-in-SetReplication-clause-ledger
returns-in-SetReplication-clause-ledger c =
    ledger_stays c.perform_replication.result c.args.ledger.now.rows c.args.place c.args.system.now.ring c.args.now c.args.request.now.caller c.args.request.now.op (ap is_grant (sym c.verb.ensures ∙ ap op_of c.in-SetReplication.is))

pub perform_append-requires-clause-needs : goal.perform_append-requires-clause-needs
perform_append-requires-clause-needs c = c.requires.needs ∙ ap required_rights (sym c.verb.ensures ∙ ap op_of c.in-Append.is)

pub perform_commit_recovery-requires-clause-needs : goal.perform_commit_recovery-requires-clause-needs
perform_commit_recovery-requires-clause-needs c = c.requires.needs ∙ ap required_rights (sym c.verb.ensures ∙ ap op_of c.in-CommitRecovery.is)

pub perform_commit_recovery-requires-clause-once : goal.perform_commit_recovery-requires-clause-once
perform_commit_recovery-requires-clause-once c = c.requires.recoveries.once c.in-CommitRecovery.recovered.now.block

pub returns-in-Append-clause-ok : goal.returns-in-Append-clause-ok
returns-in-Append-clause-ok c = λ last exact.
    subst (λ what. IfOk c.perform_append.result (λ verdict. IsPerformed last c.args.now c.args.request.now.caller what c.args.system.now verdict c.perform_append.new.system)) (sym (ap op_of c.in-Append.is) ∙ c.verb.ensures) (c.perform_append.ensures.ok last exact)

pub returns-in-CommitRecovery-clause-ok : goal.returns-in-CommitRecovery-clause-ok
returns-in-CommitRecovery-clause-ok c = λ last exact.
    subst (λ what. IfOk c.perform_commit_recovery.result (λ verdict. IsPerformed last c.args.now c.args.request.now.caller what c.args.system.now verdict c.perform_commit_recovery.new.system)) (sym (ap op_of c.in-CommitRecovery.is) ∙ c.verb.ensures)
    (c.perform_commit_recovery.ensures.ok last c.args.now exact)

pub returns-in-Append-clause-ledger : goal.returns-in-Append-clause-ledger
returns-in-Append-clause-ledger c =
    ledger_stays c.perform_append.result c.args.ledger.now.rows c.args.place c.args.system.now.ring c.args.now c.args.request.now.caller c.args.request.now.op (ap is_grant (sym c.verb.ensures ∙ ap op_of c.in-Append.is))

pub returns-in-CommitRecovery-clause-ledger : goal.returns-in-CommitRecovery-clause-ledger
returns-in-CommitRecovery-clause-ledger c =
    ledger_stays c.perform_commit_recovery.result c.args.ledger.now.rows c.args.place c.args.system.now.ring c.args.now c.args.request.now.caller c.args.request.now.op (ap is_grant (sym c.verb.ensures ∙ ap op_of c.in-CommitRecovery.is))
