use Rattle.std.proofs.Common.{None, refl, sym, ◌∙◌}
use Rattle.hdfs_types.specs.declared.op.Op.TheVariants as op
use Rattle.namesystem.proofs.Beating.{done_report, denied_node}
use Rattle.namesystem.proofs.namesystem.perform_report.Goals as goal

pub returns-in-Some-clause-ok : goal.returns-in-Some-clause-ok
returns-in-Some-clause-ok c = λ last exact.
    denied_node last c.args.now c.args.caller.now c.args.system.now exact (op.Reported c.args.replica) c.in-Some.denial (sym (c.in_ok-denial.ensures (op.Reported c.args.replica) refl refl c.requires) ∙ c.in-Some.is)

pub returns-in_default-node_of-clause-ok : goal.returns-in_default-node_of-clause-ok
returns-in_default-node_of-clause-ok c = λ last exact.
    done_report last c.args.now c.args.caller.now c.args.system.now exact None c.args.replica c.args.system.now.blocks (sym (c.in_ok-denial.ensures (op.Reported c.args.replica) refl refl c.requires) ∙ c.in_default.is) (sym c.in_default-node_of.is ∙ c.node_of.ensures) refl
