use Rattle.std.proofs.Common.{rules}
use Rattle.block_keys.proofs.key.KeyDebug.fmt.Goals as goal

pub returns : goal.returns
returns g c = search rules
