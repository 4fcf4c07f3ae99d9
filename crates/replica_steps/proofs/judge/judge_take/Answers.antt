use Rattle.std.proofs.Common.{rules}
use Rattle.replica_steps.proofs.judge.judge_take.Goals as goal

pub returns-then-len-limit : goal.returns-then-len-limit
returns-then-len-limit c = search rules

pub returns : goal.returns
returns c = search rules
