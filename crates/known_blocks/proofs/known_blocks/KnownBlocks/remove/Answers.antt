use Rattle.known_blocks.proofs.Below.{below_removed}
use Rattle.known_blocks.proofs.Listed.{listed_removed}
use Rattle.known_blocks.proofs.known_blocks.KnownBlocks.remove.Goals as goal

pub invariant_of-self : goal.invariant_of-self
invariant_of-self c = (
  below_removed c.args.block c.self.inside.next_block c.self.inside.table c.remove.new.self c.remove.ensures.left c.self.invariant.0,
  listed_removed c.args.block c.self.inside.table c.remove.new.self c.self.inside.running c.remove-2.new.self c.remove-2.ensures c.remove.ensures.others c.self.invariant.1,
)
