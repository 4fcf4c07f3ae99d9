use Rattle.std.proofs.Common.{refl}
use Rattle.known_blocks.proofs.Below.{below_more}
use Rattle.known_blocks.proofs.Listed.{listed_new}
use Rattle.known_blocks.proofs.known_blocks.KnownBlocks.add.Goals as goal

pub invariant_of-self-2 : goal.invariant_of-self-2
invariant_of-self-2 c = (
  below_more c.self.inside.next_block c.new-block.result _ c.self.inside.table c.insert_with.new.self c.new-block.ensures c.in_ok-insert_with.ensures.others c.self.invariant.0,
  listed_new c.new-block.result _ c.self.inside.table c.insert_with.new.self c.self.inside.running c.in_ok-insert_with.ensures.others refl c.self.invariant.1,
)
