use Rattle.fencing_laws.proofs.OnePlan.{one_is_asked, one_plan, updates_follow, ends_follow}
use Rattle.fencing_laws.proofs.laws.recoveries_have_one_plan.Goals as goal

pub returns-clause-asked : goal.returns-clause-asked
returns-clause-asked c = one_is_asked

pub returns-clause-plan : goal.returns-clause-plan
returns-clause-plan c = one_plan

pub returns-clause-updates : goal.returns-clause-updates
returns-clause-updates c = updates_follow

pub returns-clause-ends : goal.returns-clause-ends
returns-clause-ends c = ends_follow
