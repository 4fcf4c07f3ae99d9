use Rattle.std.proofs.Common.{rules}
use Rattle.block_tokens.proofs.cache.unless_expired.Goals as goal

pub returns-in-Some : goal.returns-in-Some
returns-in-Some c = search rules
