use Rattle.permission_laws.proofs.Superusers.{never_denied, no_superuser}
use Rattle.permission_laws.proofs.laws.superusers_are_never_denied.Goals as goal

pub returns-clause-never : goal.returns-clause-never
returns-clause-never c = λ a super plain. never_denied a.facts a.rows a.users a.caller a.op super plain

pub returns-clause-others : goal.returns-clause-others
returns-clause-others c = λ users user other out. no_superuser users user other out

pub returns-clause-known : goal.returns-clause-known
returns-clause-known c = λ users user known. known
