use Rattle.std.proofs.Common.{rules}
use Rattle.replica_steps.proofs.judge.judge_read.Goals as goal

pub returns : goal.returns
returns c = search rules
