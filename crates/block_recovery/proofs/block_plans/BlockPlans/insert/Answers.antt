use Rattle.block_records.proofs.Standing.{ordered_either_way}
use Rattle.block_recovery.proofs.block_plans.BlockPlans.insert.Goals as goal

pub invariant_of-self : goal.invariant_of-self
invariant_of-self c =
    ordered_either_way c.put_among.result c.args.stamp c.args.plan c.self.inside.plans.items c.put_among.new.plans.items c.self.invariant c.put_among.ensures.ok c.put_among.ensures.err
