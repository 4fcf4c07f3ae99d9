use Rattle.std.proofs.Common.{rules}
use Rattle.replica_steps.proofs.judge.judge_update.Goals as goal

pub returns-then-count-len : goal.returns-then-count-len
returns-then-count-len c = search rules

pub returns : goal.returns
returns c = search rules
