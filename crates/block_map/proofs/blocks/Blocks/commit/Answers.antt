use Rattle.std.proofs.Common.{IfErr, subst}
use Rattle.block_changes.specs.Behind.{IsFaultOf}
use Rattle.block_map.specs.BlockFacts.{Blocks, refused_commit}
use Rattle.block_map.proofs.blocks.Blocks.commit.Goals as goal

pub returns-clause-fault : goal.returns-clause-fault
returns-clause-fault c = subst (λ (facts : Blocks). IfErr c.commit.result (IsFaultOf (refused_commit facts c.args.block c.args.length))) c.self.view_is c.commit.ensures.fault
