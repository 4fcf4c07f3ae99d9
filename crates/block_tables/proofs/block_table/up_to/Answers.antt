use Rattle.std.proofs.Common.{rules}
use Rattle.block_tables.proofs.block_table.up_to.Goals as goal

pub returns : goal.returns
returns c = search rules
