use Rattle.std.proofs.Common.{rules}
use Rattle.replica_steps.proofs.held.Held.update.Goals as goal

pub returns-in-Some : goal.returns-in-Some
returns-in-Some c = search rules
