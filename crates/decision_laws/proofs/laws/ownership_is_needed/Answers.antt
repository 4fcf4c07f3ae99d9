use Rattle.decision_laws.proofs.Entitled.{chown_exact, lists_exact}
use Rattle.decision_laws.proofs.laws.ownership_is_needed.Goals as goal

pub returns-clause-lists : goal.returns-clause-lists
returns-clause-lists c = lists_exact

pub returns-clause-chown : goal.returns-clause-chown
returns-clause-chown c = chown_exact
