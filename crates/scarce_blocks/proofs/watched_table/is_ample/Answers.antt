use Rattle.std.proofs.Common.{rules}
use Rattle.scarce_blocks.proofs.watched_table.is_ample.Goals as goal

pub returns-else-is_none : goal.returns-else-is_none
returns-else-is_none c = search rules
