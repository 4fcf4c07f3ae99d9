use Rattle.block_recovery.proofs.Stamped.{stands}
use Rattle.block_recovery.proofs.block_plans.BlockPlans.get.Goals as goal

pub returns-in-Ok : goal.returns-in-Ok
returns-in-Ok c = stands c.args.stamp c.self.inside.plans.items c.args.self.now c.in-Ok.at c.index.result.now (rw (← c.deref.ensures.value) c.in-Ok.ensures.there) c.index.ensures c.self.view_is
