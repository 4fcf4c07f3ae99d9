use Rattle.std.proofs.Common.{rules}
use Rattle.replica_steps.proofs.held.Held.promise.Goals as goal

pub returns : goal.returns
returns c = search rules
