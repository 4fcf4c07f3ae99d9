use Rattle.std.proofs.Common.{rules}
use Rattle.plan_steps.proofs.lead.lead.Goals as goal

pub returns-in-Decide-clause-ok : goal.returns-in-Decide-clause-ok
returns-in-Decide-clause-ok c = search rules

pub returns-in-Decide-clause-answer : goal.returns-in-Decide-clause-answer
returns-in-Decide-clause-answer c = search rules
