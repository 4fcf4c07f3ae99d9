use Rattle.known_blocks.proofs.Below.{below_handed}
use Rattle.known_blocks.proofs.Listed.{listed_handed}
use Rattle.known_blocks.proofs.known_blocks.KnownBlocks.hand_out.Goals as goal

pub invariant_of-self : goal.invariant_of-self
invariant_of-self c = (
  below_handed c.args.now c.args.blocks.now c.self.inside.next_block c.self.inside.table c.hand_out.new.self c.hand_out.ensures c.self.invariant.0,
  listed_handed c.args.now c.args.blocks.now c.self.inside.table c.hand_out.new.self c.self.inside.running c.hand_out.ensures c.self.invariant.1,
)
