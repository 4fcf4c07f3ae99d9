use Rattle.std.proofs.Common.{rules}
use Rattle.partial_acl.proofs.completed.mask_of.Goals as goal

pub returns-in-None : goal.returns-in-None
returns-in-None c = search rules
