use Rattle.std.proofs.Common.{rules}
use Rattle.block_tables.specs.Changes.{with_recovery}
use Rattle.known_blocks.proofs.Below.{below_changed}
use Rattle.known_blocks.proofs.Listed.{listed_begun}
use Rattle.known_blocks.proofs.known_blocks.KnownBlocks.begin_recovery.Goals as goal

pub invariant_of-self-2 : goal.invariant_of-self-2
invariant_of-self-2 c = (
  below_changed (with_recovery c.new-newest.result c.args.now) c.args.block c.self.inside.next_block c.self.inside.table c.begin_recovery.new.self c.begin_recovery.ensures c.self.invariant.0,
  listed_begun c.new-newest.result c.args.now c.args.block c.self.inside.table c.begin_recovery.new.self c.self.inside.running c.insert.new.self c.begin_recovery.ensures c.in_ok-insert.ensures.ok c.self.invariant.1,
)

pub returns-clause-begun : goal.returns-clause-begun
returns-clause-begun c = search rules
