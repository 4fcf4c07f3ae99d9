use Rattle.std.proofs.Common.{◌≡◌, subst, None, OnOk, IfErr}
use Rattle.block_recovery.specs.Plans.{IsPlanFaultOf, refused_updated, with_updated}
use Rattle.block_recovery.proofs.Stamped.{still_ordered, stands, changed}
use Rattle.block_recovery.proofs.block_plans.BlockPlans.update.Goals as goal

pub invariant_of-self : goal.invariant_of-self
invariant_of-self c = still_ordered c.self.inside.plans.items c.in-Ok.at c.index_mut.result.now c.update.new.self c.index_mut.ensures.value c.self.invariant

pub returns-clause-allowed : goal.returns-clause-allowed
returns-clause-allowed c =
    subst (λ found. OnOk c.update.result (refused_updated c.args.node found ≡ None))
    (stands c.args.stamp c.self.inside.plans.items c.args.self.now c.in-Ok.at c.index_mut.result.now (rw (← c.deref.ensures.value) c.in-Ok.ensures.there) c.index_mut.ensures.value c.self.view_is) c.update.ensures.allowed

pub returns-clause-ok : goal.returns-clause-ok
returns-clause-ok c =
    changed c.update.result (with_updated c.args.node) c.args.stamp c.self.inside.plans.items c.args.self.now c.in-Ok.at c.index_mut.result.now c.update.new.self
    (rw (← c.deref.ensures.value) c.in-Ok.ensures.there) c.index_mut.ensures.value c.self.view_is c.update.ensures.ok

pub returns-clause-fault : goal.returns-clause-fault
returns-clause-fault c =
    subst (λ found. IfErr c.update.result (IsPlanFaultOf (refused_updated c.args.node found)))
    (stands c.args.stamp c.self.inside.plans.items c.args.self.now c.in-Ok.at c.index_mut.result.now (rw (← c.deref.ensures.value) c.in-Ok.ensures.there) c.index_mut.ensures.value c.self.view_is) c.update.ensures.fault
