use Rattle.std.proofs.Common.{rules}
use Rattle.known_blocks.proofs.known_blocks.KnownBlocks.can_add.Goals as goal

pub returns-then-self-clause-err : goal.returns-then-self-clause-err
returns-then-self-clause-err c = search rules
