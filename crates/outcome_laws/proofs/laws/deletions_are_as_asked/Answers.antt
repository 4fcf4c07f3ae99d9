use Rattle.std.proofs.Common.{false, refl}
use Rattle.hdfs_types.specs.declared.op.Op.TheVariants as op
use Rattle.outcome_laws.proofs.Doing.{unrefused}
use Rattle.outcome_laws.proofs.Unrefused.{none_beneath, no_root}
use Rattle.outcome_laws.proofs.laws.deletions_are_as_asked.Goals as goal

pub returns-clause-beneath : goal.returns-clause-beneath
returns-clause-beneath c = λ a path other is_done asked beneath. none_beneath a.facts a.caller a.rows a.users path other (unrefused a (op.Delete path false) asked is_done) beneath

pub returns-clause-root : goal.returns-clause-root
returns-clause-root c = λ a path is_done taken. no_root a.facts a.caller a.rows a.users a.op path taken (unrefused a a.op refl is_done)
