use Rattle.block_tables.specs.Changes.{with_length}
use Rattle.scarce_blocks.proofs.Ample.{others_changed}
use Rattle.scarce_blocks.proofs.watched_table.WatchedTable.commit.Goals as goal

pub watch-requires : goal.watch-requires
watch-requires c = λ complete. others_changed (with_length c.args.bytes) c.args.block c.self.inside.table c.commit.new.self c.self.inside.scarce c.commit.ensures (c.self.invariant complete)
