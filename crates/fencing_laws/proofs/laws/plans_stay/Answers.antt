use Rattle.fencing_laws.proofs.Plans.{nodes_lead, plans_stay, plans_are_right}
use Rattle.fencing_laws.proofs.laws.plans_stay.Goals as goal

pub returns-clause-lead : goal.returns-clause-lead
returns-clause-lead c = nodes_lead

pub returns-clause-stay : goal.returns-clause-stay
returns-clause-stay c = plans_stay

pub returns-clause-right : goal.returns-clause-right
returns-clause-right c = plans_are_right
