use Rattle.std.proofs.Common.{refl, sym, ◌∙◌, subst}
use Rattle.hdfs_types.specs.declared.op.Op.TheVariants as op
use Rattle.namesystem.specs.Performed.{IsPerformed}
use Rattle.namesystem.proofs.Performing.{performed_replication, unperformed_replication}
use Rattle.namesystem.proofs.namesystem.perform_replication.Goals.{then-is_done, else-is_done}
use Rattle.namesystem.proofs.namesystem.perform_replication.Goals as goal

pub returns-clause-ok : goal.returns-clause-ok
returns-clause-ok c = λ last now exact.
    let what = op.SetReplication c.args.path.now c.args.replication in
    elim c.if-is_done.branch [
      | then-is_done w ↦
          subst (IsPerformed last now c.args.caller.now what c.args.system.now c.in_ok-verdict.verdict) (sym w.system-is)
          (performed_replication last now c.args.caller.now c.args.path.now c.args.replication c.args.system.now (record (c.args.system.now) { tree = c.apply_replication.new.tree; blocks = w.replicate.new.blocks }) c.in_ok-verdict.verdict
          c.requires.namespace c.in_ok-verdict.ensures.ok (sym c.is_done.ensures ∙ w.if-is_done.true) refl refl refl w.replicate.ensures exact)
      | else-is_done w ↦
          subst (IsPerformed last now c.args.caller.now what c.args.system.now c.in_ok-verdict.verdict) (sym w.system-is)
          (unperformed_replication last now c.args.caller.now c.args.path.now c.args.replication c.args.system.now (record (c.args.system.now) { tree = c.apply_replication.new.tree }) c.in_ok-verdict.verdict
          c.in_ok-verdict.ensures.ok (sym c.is_done.ensures ∙ w.if-is_done.false) refl exact)
    ]
