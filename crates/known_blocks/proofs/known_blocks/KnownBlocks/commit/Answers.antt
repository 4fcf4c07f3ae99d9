use Rattle.std.proofs.Common.{refl}
use Rattle.block_tables.specs.Changes.{with_length}
use Rattle.known_blocks.proofs.Below.{below_changed}
use Rattle.known_blocks.proofs.Listed.{listed_still}
use Rattle.known_blocks.proofs.known_blocks.KnownBlocks.commit.Goals as goal

pub invariant_of-self : goal.invariant_of-self
invariant_of-self c = (
  below_changed (with_length c.args.bytes) c.args.block c.self.inside.next_block c.self.inside.table c.commit.new.self c.commit.ensures c.self.invariant.0,
  listed_still (with_length c.args.bytes) c.args.block c.self.inside.table c.commit.new.self c.self.inside.running c.commit.ensures (λ own. refl) c.self.invariant.1,
)
