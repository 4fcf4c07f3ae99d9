use Rattle.std.proofs.Common.{Some}
use Rattle.block_records.specs.Verdicts.{verdict_by}
use Rattle.block_tables.specs.Changes.{with_valid_report}
use Rattle.block_tables.proofs.Reported.{still_recovering}
use Rattle.known_blocks.proofs.Below.{below_where_done}
use Rattle.known_blocks.proofs.Listed.{listed_where_done}
use Rattle.known_blocks.proofs.known_blocks.KnownBlocks.report.Goals as goal

pub invariant_of-self : goal.invariant_of-self
invariant_of-self c =
    let change = with_valid_report c.args.node c.args.stamp c.args.bytes in (
      below_where_done c.report.result change c.args.block c.self.inside.next_block c.self.inside.table c.report.new.self c.report.ensures.ok c.report.ensures.err c.self.invariant.0,
      listed_where_done c.report.result change c.args.block c.self.inside.table c.report.new.self c.self.inside.running c.report.ensures.ok c.report.ensures.err
          (λ own. still_recovering (verdict_by (Some own) c.args.stamp c.args.bytes) c.args.node c.args.bytes own) c.self.invariant.1,
    )
