use Rattle.scarce_blocks.proofs.Ample.{ample_handed}
use Rattle.scarce_blocks.proofs.watched_table.WatchedTable.hand_out.Goals as goal

pub invariant_of-self : goal.invariant_of-self
invariant_of-self c = λ complete. ample_handed c.args.now c.args.blocks.now c.self.inside.table c.hand_out.new.self c.self.inside.scarce c.hand_out.ensures (c.self.invariant complete)
