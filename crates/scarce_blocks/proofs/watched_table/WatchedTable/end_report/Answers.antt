use Rattle.block_tables.specs.Changes.{without_report}
use Rattle.scarce_blocks.proofs.Ample.{others_changed}
use Rattle.scarce_blocks.proofs.watched_table.WatchedTable.end_report.Goals as goal

pub watch-requires : goal.watch-requires
watch-requires c = λ complete. others_changed (without_report c.args.node) c.args.block c.self.inside.table c.end_report.new.self c.self.inside.scarce c.end_report.ensures (c.self.invariant complete)
