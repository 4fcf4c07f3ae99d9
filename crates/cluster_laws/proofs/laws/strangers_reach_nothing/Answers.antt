use Rattle.cluster_laws.proofs.Logs.{noted, records_rest, strangers}
use Rattle.cluster_laws.proofs.laws.strangers_reach_nothing.Goals as goal

pub returns-clause-noted : goal.returns-clause-noted
returns-clause-noted c = noted

pub returns-clause-rest : goal.returns-clause-rest
returns-clause-rest c = records_rest

pub returns-clause-strangers : goal.returns-clause-strangers
returns-clause-strangers c = strangers
