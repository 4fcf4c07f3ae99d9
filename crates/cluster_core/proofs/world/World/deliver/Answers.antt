use Rattle.std.proofs.Common.{◌++◌, ◌∷◌, [], List, refl, ap, ◌∙◌}
use Rattle.cluster_trace.specs.declared.event.Event.TheVariants.{Deliver}
use Rattle.cluster_parts.specs.declared.kept.KeptEvents.{KeptEvents}
use Rattle.cluster_parts.specs.declared.kept.KeptEvents.TheVariants.{Delivered}
use Rattle.cluster_core.specs.declared.world.World.TheInside.{Inside}
use Rattle.cluster_core.proofs.Reaching.{Steps, kept_steps, step_reached, step_past, step_outcome}
use Rattle.cluster_core.proofs.world.World.deliver.Goals as goal

abbrev left : goal.After-push_reserved → Inside
left c = record (c.self.inside) { cluster = c.deliver.new.self; events = c.push_reserved.new.self }

steps : (c : goal.After-push_reserved) → Steps c.self.inside (Deliver c.args.number c.args.now) (left c)
steps c =
    kept_steps c.self.inside (left c) (Deliver c.args.number c.args.now) (Delivered c.args.number c.args.now) (λ history. (tt, refl)) refl c.in_ok-outcome.ensures.ok
    (c.push_reserved.ensures.items ∙ ap (λ (events : List KeptEvents). events ++ Delivered c.args.number c.args.now ∷ []) c.reserve.ensures.items)
    c.in_ok-outcome.ensures.fits c.in_ok-outcome.ensures.bytes

pub invariant_of-self-2 : goal.invariant_of-self-2
invariant_of-self-2 c = step_reached c.self.inside (Deliver c.args.number c.args.now) (left c) c.self.invariant (steps c)

pub returns-clause-world : goal.returns-clause-world
returns-clause-world c = step_past c.self.inside c.args.self.now (Deliver c.args.number c.args.now) (left c) c.self.invariant c.self.view_is (steps c)

pub returns-clause-outcome : goal.returns-clause-outcome
returns-clause-outcome c =
    step_outcome c.self.inside c.args.self.now (Deliver c.args.number c.args.now) c.in_ok-outcome.outcome c.self.invariant c.self.view_is c.in_ok-outcome.ensures.outcome
