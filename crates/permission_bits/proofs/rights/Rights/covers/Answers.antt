use Rattle.std.proofs.Common.{rules}
use Rattle.permission_bits.proofs.rights.Rights.covers.Goals as goal

pub returns : goal.returns
returns c = search rules
