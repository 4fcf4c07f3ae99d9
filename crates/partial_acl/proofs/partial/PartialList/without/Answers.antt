use Rattle.std.proofs.Common.{rules}
use Rattle.partial_acl.proofs.partial.PartialList.without.Goals as goal

pub returns-clause-left : goal.returns-clause-left
returns-clause-left c = search rules
