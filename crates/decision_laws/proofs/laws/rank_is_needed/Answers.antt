use Rattle.decision_laws.proofs.Entitled.{administration_exact, nodes_exact, renew_free}
use Rattle.decision_laws.proofs.laws.rank_is_needed.Goals as goal

pub returns-clause-renew : goal.returns-clause-renew
returns-clause-renew c = renew_free

pub returns-clause-administration : goal.returns-clause-administration
returns-clause-administration c = administration_exact

pub returns-clause-nodes : goal.returns-clause-nodes
returns-clause-nodes c = nodes_exact
