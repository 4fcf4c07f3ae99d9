use Rattle.std.proofs.Common.{rules}
use Rattle.known_blocks.proofs.known_blocks.KnownBlocks.is_due.Goals as goal

pub returns-in-Some-recovering : goal.returns-in-Some-recovering
returns-in-Some-recovering c = search rules
