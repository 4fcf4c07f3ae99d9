use Rattle.std.proofs.Common.{◌≡◌, subst, None, OnOk, IfErr}
use Rattle.block_recovery.specs.Plans.{IsPlanFaultOf, refused_reply, with_answer}
use Rattle.block_recovery.proofs.Stamped.{still_ordered, stands, changed}
use Rattle.block_recovery.proofs.block_plans.BlockPlans.reply.Goals as goal

pub invariant_of-self : goal.invariant_of-self
invariant_of-self c = still_ordered c.self.inside.plans.items c.in-Ok.at c.index_mut.result.now c.reply.new.self c.index_mut.ensures.value c.self.invariant

pub returns-clause-allowed : goal.returns-clause-allowed
returns-clause-allowed c =
    subst (λ found. OnOk c.reply.result (refused_reply c.args.node found ≡ None))
    (stands c.args.stamp c.self.inside.plans.items c.args.self.now c.in-Ok.at c.index_mut.result.now (rw (← c.deref.ensures.value) c.in-Ok.ensures.there) c.index_mut.ensures.value c.self.view_is) c.reply.ensures.allowed

pub returns-clause-ok : goal.returns-clause-ok
returns-clause-ok c =
    changed c.reply.result (with_answer c.args.node c.args.answer) c.args.stamp c.self.inside.plans.items c.args.self.now c.in-Ok.at c.index_mut.result.now c.reply.new.self
    (rw (← c.deref.ensures.value) c.in-Ok.ensures.there) c.index_mut.ensures.value c.self.view_is c.reply.ensures.ok

pub returns-clause-fault : goal.returns-clause-fault
returns-clause-fault c =
    subst (λ found. IfErr c.reply.result (IsPlanFaultOf (refused_reply c.args.node found)))
    (stands c.args.stamp c.self.inside.plans.items c.args.self.now c.in-Ok.at c.index_mut.result.now (rw (← c.deref.ensures.value) c.in-Ok.ensures.there) c.index_mut.ensures.value c.self.view_is) c.reply.ensures.fault
