use Rattle.std.proofs.Common.{rules}
use Rattle.principals.proofs.users.Users.caller.Goals as goal

pub returns : goal.returns
returns c = search rules
