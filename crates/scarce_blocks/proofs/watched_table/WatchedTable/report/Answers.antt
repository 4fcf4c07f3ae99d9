use Rattle.block_tables.specs.Changes.{with_valid_report}
use Rattle.scarce_blocks.proofs.Ample.{others_changed, ample_held}
use Rattle.scarce_blocks.proofs.watched_table.WatchedTable.report.Goals as goal

pub watch-requires : goal.watch-requires
watch-requires c = λ complete. others_changed (with_valid_report c.args.node c.args.stamp c.args.bytes) c.args.block c.self.inside.table c.report.new.self c.self.inside.scarce c.in_ok-verdict.ensures.ok (c.self.invariant complete)

pub invariant_of-self-else-contains : goal.invariant_of-self-else-contains
invariant_of-self-else-contains c = λ complete. ample_held c.args.node c.args.stamp c.args.bytes c.args.block c.self.inside.table c.report.new.self c.self.inside.scarce c.in_ok-verdict.ensures.ok (c.self.invariant complete)
