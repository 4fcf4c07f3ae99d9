use Rattle.std.proofs.Common.{◌++◌, ◌∷◌, [], List, refl, ap, ◌∙◌}
use Rattle.cluster_trace.specs.declared.event.Event.TheVariants.{Data}
use Rattle.cluster_parts.specs.declared.kept.KeptEvents.{KeptEvents}
use Rattle.cluster_parts.specs.declared.kept.KeptEvents.TheVariants.{Called}
use Rattle.cluster_core.specs.declared.world.World.TheInside.{Inside}
use Rattle.cluster_core.proofs.Reaching.{Steps, kept_steps, data_fits, step_reached, still_reached, step_past, step_outcome}
use Rattle.cluster_core.proofs.world.World.call.Goals as goal

abbrev left : goal.After-push_reserved → Inside
left c = record (c.self.inside) { cluster = c.data.new.self; events = c.push_reserved.new.self }

steps : (c : goal.After-push_reserved) → Steps c.self.inside (Data c.args.node c.args.now c.args.call) (left c)
steps c =
    kept_steps c.self.inside (left c) (Data c.args.node c.args.now c.args.call) (Called c.args.node c.args.now c.args.call) (λ history. (tt, refl)) refl c.in-Ok.ensures.ok
    (c.push_reserved.ensures.items ∙ ap (λ (events : List KeptEvents). events ++ Called c.args.node c.args.now c.args.call ∷ []) c.reserve.ensures.items)
    (data_fits c.self.inside.cluster c.data.new.self c.args.node c.args.now c.args.call c.in-Ok.ensures.ok) c.in-Ok.ensures.bytes

pub invariant_of-self-2 : goal.invariant_of-self-2
invariant_of-self-2 c = step_reached c.self.inside (Data c.args.node c.args.now c.args.call) (left c) c.self.invariant (steps c)

pub returns-clause-world : goal.returns-clause-world
returns-clause-world c = step_past c.self.inside c.args.self.now (Data c.args.node c.args.now c.args.call) (left c) c.self.invariant c.self.view_is (steps c)

pub returns-clause-outcome : goal.returns-clause-outcome
returns-clause-outcome c =
    step_outcome c.self.inside c.args.self.now (Data c.args.node c.args.now c.args.call) c.in-Ok.outcome c.self.invariant c.self.view_is
    c.in-Ok.ensures.outcome

pub invariant_of-self-in_default : goal.invariant_of-self-in_default
invariant_of-self-in_default c =
    still_reached c.self.inside (record (c.self.inside) { cluster = c.data.new.self; events = c.reserve.new.self }) refl c.in_default.ensures.err c.reserve.ensures.items c.self.invariant
