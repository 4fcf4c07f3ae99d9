use Rattle.std.proofs.Common.{rules}
use Rattle.replicas.proofs.sending.tell_replica.Goals as goal

pub returns : goal.returns
returns c = search rules
