use Rattle.std.proofs.Common.{refl}
use Rattle.block_tables.specs.Changes.{without_report}
use Rattle.known_blocks.proofs.Below.{below_changed}
use Rattle.known_blocks.proofs.Listed.{listed_still}
use Rattle.known_blocks.proofs.known_blocks.KnownBlocks.end_report.Goals as goal

pub invariant_of-self : goal.invariant_of-self
invariant_of-self c = (
  below_changed (without_report c.args.node) c.args.block c.self.inside.next_block c.self.inside.table c.end_report.new.self c.end_report.ensures c.self.invariant.0,
  listed_still (without_report c.args.node) c.args.block c.self.inside.table c.end_report.new.self c.self.inside.running c.end_report.ensures (λ own. refl) c.self.invariant.1,
)
