use Rattle.std.proofs.Common.{IfErr, subst}
use Rattle.block_changes.specs.Behind.{IsFaultOf}
use Rattle.block_map.specs.BlockFacts.{Blocks, refused_recovery}
use Rattle.block_map.proofs.blocks.Blocks.begin_recovery.Goals as goal

pub returns-clause-fault : goal.returns-clause-fault
returns-clause-fault c = subst (λ (facts : Blocks). IfErr c.begin.result (IsFaultOf (refused_recovery facts c.args.block c.args.now))) c.self.view_is c.begin.ensures.fault
