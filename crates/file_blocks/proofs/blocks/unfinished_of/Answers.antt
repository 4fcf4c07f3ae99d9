use Rattle.std.proofs.Common.{rules}
use Rattle.file_blocks.proofs.blocks.unfinished_of.Goals as goal

pub returns : goal.returns
returns c = search rules
