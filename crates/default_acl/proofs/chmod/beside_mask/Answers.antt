use Rattle.std.proofs.Common.{rules}
use Rattle.default_acl.proofs.chmod.beside_mask.Goals as goal

pub returns-clause-bases : goal.returns-clause-bases
returns-clause-bases c = search rules
