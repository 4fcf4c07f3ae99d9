use Rattle.file_takeovers.proofs.Recovering.{in_recovery}
use Rattle.file_takeovers.proofs.recovery.end_at.Goals as goal

pub end_in-requires-clause-searched : goal.end_in-requires-clause-searched
end_in-requires-clause-searched c = c.requires.searched (in_recovery c.args.blocks.now c.args.recovered.now.block c.args.recovered.now.stamp c.in-Ok.ensures.allowed)
