use Rattle.block_tables.specs.Changes.{with_replication}
use Rattle.scarce_blocks.proofs.Ample.{others_changed}
use Rattle.scarce_blocks.proofs.watched_table.WatchedTable.set_replication.Goals as goal

pub watch-requires : goal.watch-requires
watch-requires c = λ complete. others_changed (with_replication c.args.replication) c.args.block c.self.inside.table c.set_replication.new.self c.self.inside.scarce c.set_replication.ensures (c.self.invariant complete)
