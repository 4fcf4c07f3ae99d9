use Rattle.std.proofs.Common.{refl, sym, ◌∙◌}
use Rattle.hdfs_types.specs.declared.op.Op.TheVariants as op
use Rattle.namesystem.proofs.Appending.{three_of}
use Rattle.namesystem.proofs.Beating.{denied_node}
use Rattle.namesystem.proofs.Ending.{performed_end}
use Rattle.namesystem.proofs.namesystem.perform_commit_recovery.Goals as goal

pub returns-in-Some-clause-ok : goal.returns-in-Some-clause-ok
returns-in-Some-clause-ok c = λ last now exact.
    denied_node last now c.args.caller.now c.args.system.now exact (op.CommitRecovery c.args.recovered.now) c.in-Some.denial (sym (c.in_ok-denial.ensures (op.CommitRecovery c.args.recovered.now) refl refl c.requires.needs) ∙ c.in-Some.is)

pub returns-clause-ok : goal.returns-clause-ok
returns-clause-ok c = λ last now exact.
    three_of c.end_recovery.result _ _ _ _ c.end_recovery.ensures.verdict c.end_recovery.ensures.done c.end_recovery.ensures.refused
    (λ verdict told done undone. performed_end last now c.args.caller.now c.args.recovered.now c.args.system.now exact (sym (c.in_ok-denial.ensures (op.CommitRecovery c.args.recovered.now) refl refl c.requires.needs) ∙ c.in_default.is)
    verdict c.end_recovery.new.tree c.end_recovery.new.blocks told done undone)
