use Rattle.flat_rows.proofs.Endings.{ends_where_decided, ends_as_denied, granted_where_undenied}
use Rattle.flat_rows.proofs.trail.trails_end_as_decisions.Goals as goal

pub returns-clause-fails : goal.returns-clause-fails
returns-clause-fails c = ends_where_decided

pub returns-clause-denied : goal.returns-clause-denied
returns-clause-denied c = ends_as_denied

pub returns-clause-granted : goal.returns-clause-granted
returns-clause-granted c = granted_where_undenied
