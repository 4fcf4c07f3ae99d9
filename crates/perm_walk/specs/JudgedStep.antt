-- An operation with its needs: the first of them that fails, or else the outcome.
use Rattle.std.specs.Prelude.{List}
use Rattle.hdfs_types.specs.declared.op.Op.{Op}
use Rattle.principals.specs.Users.{Users, Caller}
use Rattle.namespace_rows.specs.declared.row.Row.{Row}
use Rattle.required_rights.specs.RequiredRights.{Demand}
use Rattle.flat_rows.specs.Decision.{denial_among}
use Rattle.flat_rows.specs.Facts.{Facts}
use Rattle.flat_rows.specs.Outcome.{Step, denied_or_outcome}

abbrev pub judged_step : Facts → List Row → Users → Caller → List Demand → Op → Step
judged_step facts rows users caller needs op = denied_or_outcome facts rows users caller.name op (denial_among rows caller needs)
