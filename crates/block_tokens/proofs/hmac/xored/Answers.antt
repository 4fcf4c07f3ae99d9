use Rattle.std.proofs.Common.{arith, get_or, rules}
use Rattle.std.specs.Prelude.{bit_xor}
use Rattle.std.proofs.lemmas.List.Edits.{map_over_more}
use Rattle.block_tokens.proofs.hmac.xored.Goals as goal

pub loop-byte-preserved : goal.loop-byte-preserved
loop-byte-preserved c =
    map_over_more (λ byte. bit_xor byte c.args.pad) c.args.block.now c.loop-byte.byte-items c.loop-byte.byte-index
    (get_or c.loop-byte.byte-items c.loop-byte.byte-index 0) (omega arith) c.loop-byte.invariant (search rules)
