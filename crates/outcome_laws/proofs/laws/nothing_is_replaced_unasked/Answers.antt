use Rattle.std.proofs.Common.{false, ◌∙◌, ap}
use Rattle.hdfs_types.specs.declared.op.Op.TheVariants as op
use Rattle.namespace_rows.specs.Rows.{row_at}
use Rattle.flat_rows.specs.Outcome.{made_at}
use Rattle.outcome_laws.proofs.Doing.{unrefused, left}
use Rattle.outcome_laws.proofs.Unrefused.{no_row_at_creation, no_directory_at_creation, no_row_at_target, directory_at_making}
use Rattle.outcome_laws.proofs.laws.nothing_is_replaced_unasked.Goals as goal

pub returns-clause-files : goal.returns-clause-files
returns-clause-files c = λ a path mode replication is_done asked.
    no_row_at_creation a.facts a.caller a.rows a.users path mode replication (unrefused a (op.Create path mode replication false) asked is_done)

pub returns-clause-directories : goal.returns-clause-directories
returns-clause-directories c = λ a path mode replication over row is_done asked at.
    no_directory_at_creation a.facts a.caller a.rows a.users path mode replication over row (unrefused a (op.Create path mode replication over) asked is_done) at

pub returns-clause-renames : goal.returns-clause-renames
returns-clause-renames c = λ a from to is_done asked. no_row_at_target a.facts a.caller a.rows a.users from to (unrefused a (op.Rename from to) asked is_done)

pub returns-clause-made : goal.returns-clause-made
returns-clause-made c = λ a path mode row is_done asked at. (
  directory_at_making a.facts a.caller a.rows a.users path mode row (unrefused a (op.Mkdirs path mode) asked is_done) at,
  ap (row_at path) (left a (op.Mkdirs path mode) asked is_done) ∙ ap (λ o. row_at path (made_at path mode a.caller o a.rows)) at ∙ at,
)
