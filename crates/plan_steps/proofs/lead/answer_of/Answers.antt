use Rattle.std.proofs.Common.{rules}
use Rattle.plan_steps.proofs.lead.answer_of.Goals as goal

pub returns-in-Writing : goal.returns-in-Writing
returns-in-Writing c = search rules
