use Rattle.decision_laws.proofs.Entitled.{append_exact, list_exact, open_exact, replication_exact, summary_exact, way_enough}
use Rattle.decision_laws.proofs.laws.looks_and_writes_need_these_rights.Goals as goal

pub returns-clause-way : goal.returns-clause-way
returns-clause-way c = way_enough

pub returns-clause-open : goal.returns-clause-open
returns-clause-open c = open_exact

pub returns-clause-append : goal.returns-clause-append
returns-clause-append c = append_exact

pub returns-clause-replication : goal.returns-clause-replication
returns-clause-replication c = replication_exact

pub returns-clause-list : goal.returns-clause-list
returns-clause-list c = list_exact

pub returns-clause-summary : goal.returns-clause-summary
returns-clause-summary c = summary_exact
