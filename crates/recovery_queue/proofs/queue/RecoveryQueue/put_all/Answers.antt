use Rattle.std.proofs.Common.{rules}
use Rattle.recovery_queue.proofs.queue.RecoveryQueue.put_all.Goals as goal

pub returns-clause-ok : goal.returns-clause-ok
returns-clause-ok c = search rules
