use Rattle.std.proofs.Common.{arith}
use Rattle.call_parts.proofs.Pieces.{popped}
use Rattle.call_parts.proofs.chunks.drop_behind.Goals as goal

pub loop-pieces-preserved-in-loop-pieces : goal.loop-pieces-preserved-in-loop-pieces
loop-pieces-preserved-in-loop-pieces c =
    popped c.args.limit c.loop-pieces.pieces.items c.deref.result.now c.pop.new.self.items c.args.pieces.now.items c.loop-pieces.pieces.len c.loop-pieces.invariant.0 c.deref.ensures.value
    (omega (arith, c.loop-pieces.pieces.ok)) c.pop.ensures.rest (c.is_behind.ensures.yes c.loop-pieces-test.true) c.loop-pieces.invariant.1
