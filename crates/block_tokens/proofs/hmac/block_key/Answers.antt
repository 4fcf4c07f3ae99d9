use Rattle.std.proofs.Common.{arith}
use Rattle.block_tokens.proofs.Blocks.{filled}
use Rattle.block_tokens.proofs.hmac.block_key.Goals as goal

pub returns-else-key-gt-BLOCK_BYTES : goal.returns-else-key-gt-BLOCK_BYTES
returns-else-key-gt-BLOCK_BYTES c = rw c.copy_from_slice-else-key-gt-BLOCK_BYTES.ensures.after (filled c.args.key.now (omega arith))
