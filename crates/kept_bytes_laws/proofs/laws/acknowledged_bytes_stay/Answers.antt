use Rattle.kept_bytes_laws.proofs.Safe.{decisions_keep, updates_keep, replicas_keep}
use Rattle.kept_bytes_laws.proofs.laws.acknowledged_bytes_stay.Goals as goal

pub returns-clause-decisions : goal.returns-clause-decisions
returns-clause-decisions c = decisions_keep

pub returns-clause-updates : goal.returns-clause-updates
returns-clause-updates c = updates_keep

pub returns-clause-replicas : goal.returns-clause-replicas
returns-clause-replicas c = replicas_keep
