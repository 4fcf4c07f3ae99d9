use Rattle.std.proofs.Common.{rules}
use Rattle.perm_walk.proofs.judge.first_closed_in_role.Goals as goal

pub returns-in-SubTree-clause-row : goal.returns-in-SubTree-clause-row
returns-in-SubTree-clause-row c = search rules
