use Rattle.std.proofs.Common.{rules}
use Rattle.default_acl.proofs.change.change.Goals as goal

pub returns-in-Modify-clause-changes : goal.returns-in-Modify-clause-changes
returns-in-Modify-clause-changes c = search rules
