use Rattle.std.proofs.Common.{rules}
use Rattle.block_tokens.proofs.cache.learned.Goals as goal

pub returns : goal.returns
returns c = search rules
