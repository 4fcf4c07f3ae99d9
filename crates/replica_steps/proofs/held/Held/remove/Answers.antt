use Rattle.std.proofs.Common.{rules}
use Rattle.replica_steps.proofs.held.Held.remove.Goals as goal

pub returns : goal.returns
returns c = search rules
