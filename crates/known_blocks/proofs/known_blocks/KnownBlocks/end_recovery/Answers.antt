use Rattle.block_tables.specs.Changes.{with_recovered}
use Rattle.known_blocks.proofs.Below.{below_changed}
use Rattle.known_blocks.proofs.Listed.{listed_ended}
use Rattle.known_blocks.proofs.known_blocks.KnownBlocks.end_recovery.Goals as goal

pub invariant_of-self-2 : goal.invariant_of-self-2
invariant_of-self-2 c = (
  below_changed (with_recovered c.args.bytes c.args.nodes) c.args.block c.self.inside.next_block c.self.inside.table c.end_recovery.new.self c.in_ok-end_recovery.ensures.ok c.self.invariant.0,
  listed_ended c.args.bytes c.args.nodes c.args.block c.self.inside.table c.end_recovery.new.self c.self.inside.running c.remove.new.self c.in_ok-end_recovery.ensures.ok c.remove.ensures c.self.invariant.1,
)
