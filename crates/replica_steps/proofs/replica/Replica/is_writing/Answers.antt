use Rattle.std.proofs.Common.{rules}
use Rattle.replica_steps.proofs.replica.Replica.is_writing.Goals as goal

pub returns-in-Writing : goal.returns-in-Writing
returns-in-Writing c = search rules
