use Rattle.std.proofs.Common.{None, refl, sym, ◌∙◌, subst}
use Rattle.hdfs_types.specs.declared.op.Op.TheVariants as op
use Rattle.hdfs_types.specs.declared.reply.Reply.TheVariants as reply
use Rattle.flat_rows.specs.declared.verdict.Verdict.TheVariants.{Done, Denied}
use Rattle.namesystem.specs.declared.told.Told.{Told}
use Rattle.namesystem.specs.Told.{IsTold}
use Rattle.namesystem.specs.Performed.{IsPerformed}
use Rattle.namesystem.proofs.Performing.{where_ok}
use Rattle.namesystem.proofs.Beating.{done_beat, denied_node}
use Rattle.namesystem.proofs.granting.perform_heartbeat.Goals as goal

pub returns-in-Some-clause-ok : goal.returns-in-Some-clause-ok
returns-in-Some-clause-ok c = λ last exact.
    where_ok c.with_copy.result (IsTold (Denied c.in-Some.denial)) (λ (told : Told). IsPerformed last c.args.now c.args.caller.now op.Heartbeat c.args.system.now told.verdict c.args.system.now)
    (λ told is. subst (λ v. IsPerformed last c.args.now c.args.caller.now op.Heartbeat c.args.system.now v c.args.system.now) (sym is.verdict_is)
    (denied_node last c.args.now c.args.caller.now c.args.system.now exact op.Heartbeat c.in-Some.denial (sym (c.in_ok-denial.ensures op.Heartbeat refl refl c.requires) ∙ c.in-Some.is))) c.with_copy.ensures.ok

pub returns-in_default-node_of-clause-ok : goal.returns-in_default-node_of-clause-ok
returns-in_default-node_of-clause-ok c = λ last exact.
    where_ok c.with_copy-in_default-node_of.result (IsTold (Done reply.Empty)) (λ (told : Told). IsPerformed last c.args.now c.args.caller.now op.Heartbeat c.args.system.now told.verdict c.args.system.now)
    (λ told is. subst (λ v. IsPerformed last c.args.now c.args.caller.now op.Heartbeat c.args.system.now v c.args.system.now) (sym is.verdict_is)
    (done_beat last c.args.now c.args.caller.now c.args.system.now exact None reply.Empty c.args.system.now.blocks (sym (c.in_ok-denial.ensures op.Heartbeat refl refl c.requires) ∙ c.in_default.is) (sym c.in_default-node_of.is ∙ c.node_of.ensures) refl refl refl))
    c.with_copy-in_default-node_of.ensures.ok
