use Rattle.std.proofs.Common.{rules}
use Rattle.principals.proofs.users.Users.add.Goals as goal

pub returns-then-is_some-clause-refused : goal.returns-then-is_some-clause-refused
returns-then-is_some-clause-refused c = search rules
