use Rattle.std.proofs.Common.{Err, refl, sym, ap, ◌∙◌}
use Rattle.hdfs_types.specs.declared.op.Op.TheVariants as op
use Rattle.namesystem.proofs.Rolling.{done_roll, spent_roll, denied_roll}
use Rattle.namesystem.proofs.namesystem.perform_roll.Goals as goal

pub returns-in-Some-clause-ok : goal.returns-in-Some-clause-ok
returns-in-Some-clause-ok c = λ last exact.
    denied_roll last c.args.now c.args.caller.now c.args.key c.args.system.now exact c.in-Some.denial (sym (c.in_ok-denial.ensures (op.RollKey c.args.key) refl refl c.requires) ∙ c.in-Some.is)

pub returns-in-Ok-clause-ok : goal.returns-in-Ok-clause-ok
returns-in-Ok-clause-ok c = λ last exact.
    done_roll last c.args.now c.args.caller.now c.args.key c.args.system.now exact c.roll.new.self c.in-Ok.serial (sym (c.in_ok-denial.ensures (op.RollKey c.args.key) refl refl c.requires) ∙ c.in_default.is) c.in-Ok.ensures.rolled.0 c.in-Ok.ensures.rolled.1

pub returns-in-Err-SpentSerial-clause-ok : goal.returns-in-Err-SpentSerial-clause-ok
returns-in-Err-SpentSerial-clause-ok c = λ last exact.
    spent_roll last c.args.now c.args.caller.now c.args.key c.args.system.now exact c.roll.new.self c.of.result c.of.ensures (sym (c.in_ok-denial.ensures (op.RollKey c.args.key) refl refl c.requires) ∙ c.in_default.is) (c.in-Err-SpentSerial.ensures.spent.0 (ap (λ fault. Err fault) c.in-Err-SpentSerial.field-0-is)) c.in-Err-SpentSerial.ensures.err
