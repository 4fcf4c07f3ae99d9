use Rattle.std.proofs.Common.{ℕ, Result, Ok, ap, ◌∙◌}
use Rattle.std.specs.Option.{option_and_then}
use Rattle.block_recovery.specs.Plans.{decision_for, with_decision}
use Rattle.block_recovery.proofs.Stamped.{still_ordered, stands, changed}
use Rattle.block_recovery.proofs.block_plans.BlockPlans.decide.Goals as goal

-- a call that can't fail
abbrev done : Result ℕ ℕ
done = Ok 0

pub decide-requires : goal.decide-requires
decide-requires c =
    ap (option_and_then decision_for)
    (stands c.args.stamp c.self.inside.plans.items c.args.self.now c.in-Ok.at c.index_mut.result.now (rw (← c.deref.ensures.value) c.in-Ok.ensures.there) c.index_mut.ensures.value c.self.view_is) ∙ c.requires

pub invariant_of-self : goal.invariant_of-self
invariant_of-self c = still_ordered c.self.inside.plans.items c.in-Ok.at c.index_mut.result.now c.decide.new.self c.index_mut.ensures.value c.self.invariant

pub returns : goal.returns
returns c =
    changed done with_decision c.args.stamp c.self.inside.plans.items c.args.self.now c.in-Ok.at c.index_mut.result.now c.decide.new.self
    (rw (← c.deref.ensures.value) c.in-Ok.ensures.there) c.index_mut.ensures.value c.self.view_is c.decide.ensures
