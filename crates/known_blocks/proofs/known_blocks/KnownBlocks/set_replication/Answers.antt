use Rattle.std.proofs.Common.{refl}
use Rattle.block_tables.specs.Changes.{with_replication}
use Rattle.known_blocks.proofs.Below.{below_changed}
use Rattle.known_blocks.proofs.Listed.{listed_still}
use Rattle.known_blocks.proofs.known_blocks.KnownBlocks.set_replication.Goals as goal

pub invariant_of-self : goal.invariant_of-self
invariant_of-self c = (
  below_changed (with_replication c.args.replication) c.args.block c.self.inside.next_block c.self.inside.table c.set_replication.new.self c.set_replication.ensures c.self.invariant.0,
  listed_still (with_replication c.args.replication) c.args.block c.self.inside.table c.set_replication.new.self c.self.inside.running c.set_replication.ensures (λ own. refl) c.self.invariant.1,
)
