use Rattle.std.proofs.Common.{arith}
use Rattle.block_tokens.proofs.Differences.{difference_none, difference_more, difference_all}
use Rattle.block_tokens.proofs.code.is_same_code.Goals as goal

pub loop-i-init : goal.loop-i-init
loop-i-init c = difference_none c.args.code.now c.args.other.now

pub loop-i-preserved : goal.loop-i-preserved
loop-i-preserved c = difference_more c.args.code.now c.args.other.now c.loop-i.i c.loop-i.difference c.loop-i.invariant

pub returns : goal.returns
returns c = difference_all c.args.code.now c.args.other.now c.loop-i.i c.loop-i.difference (omega arith) (omega arith) c.loop-i.invariant
