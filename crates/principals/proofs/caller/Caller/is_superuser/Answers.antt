use Rattle.std.proofs.Common.{rules}
use Rattle.principals.proofs.caller.Caller.is_superuser.Goals as goal

pub returns : goal.returns
returns c = search rules
