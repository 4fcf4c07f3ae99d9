use Rattle.std.proofs.Common.{rules}
use Rattle.block_index.proofs.node_blocks.NodeBlocks.insert_each.Goals as goal

pub returns-then-is_err-clause-err : goal.returns-then-is_err-clause-err
returns-then-is_err-clause-err c = search rules
