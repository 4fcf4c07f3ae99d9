use Rattle.std.proofs.Common.{rules}
use Rattle.node_calls.proofs.principal.principal_of.Goals as goal

pub returns-in-Ok : goal.returns-in-Ok
returns-in-Ok c = search rules
