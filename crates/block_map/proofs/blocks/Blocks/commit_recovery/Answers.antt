use Rattle.std.proofs.Common.{IfErr, subst}
use Rattle.block_changes.specs.Behind.{IsFaultOf}
use Rattle.block_map.specs.BlockFacts.{Blocks, refused_recovered}
use Rattle.block_map.proofs.blocks.Blocks.commit_recovery.Goals as goal

pub returns-clause-fault : goal.returns-clause-fault
returns-clause-fault c = subst (λ (facts : Blocks). IfErr c.end.result (IsFaultOf (refused_recovered facts c.args.block c.args.stamp))) c.self.view_is c.end.ensures.fault
