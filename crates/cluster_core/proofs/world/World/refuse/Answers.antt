use Rattle.std.proofs.Common.{◌≡◌, ◌++◌, ◌∷◌, [], List, refl, ap, ◌∙◌}
use Rattle.hdfs_types.specs.declared.op.Request.{Request}
use Rattle.cluster_trace.specs.Trace.{happens, event_outcome}
use Rattle.cluster_trace.specs.declared.event.Event.TheVariants.{Name}
use Rattle.cluster_parts.specs.declared.kept.KeptEvents.{KeptEvents}
use Rattle.cluster_parts.specs.declared.kept.KeptEvents.TheVariants.{Refused}
use Rattle.cluster_core.specs.declared.world.World.TheInside.{Inside}
use Rattle.cluster_core.proofs.Reaching.{Steps, kept_steps, lost_fits, step_reached, still_reached, step_past, step_outcome}
use Rattle.cluster_core.proofs.world.World.refuse.Goals as goal

abbrev left : goal.After-push_reserved → Inside
left c = record (c.self.inside) { cluster = c.refuse.new.self; events = c.push_reserved.new.self }

-- the request that is lent is the one that is kept
is_lent : (c : goal.After-push_reserved) → c.deref.result.now ≡ c.args.request
is_lent c = c.deref.ensures ∙ c.in_ok-kept.ensures.ok

is_asked : (c : goal.After-push_reserved) → c.refuse.new.self ≡ happens c.self.inside.cluster (Name c.args.request)
is_asked c = c.in-Ok.ensures.ok ∙ ap (λ (own : Request). happens c.self.inside.cluster (Name own)) (is_lent c)

steps : (c : goal.After-push_reserved) → Steps c.self.inside (Name c.args.request) (left c)
steps c =
    kept_steps c.self.inside (left c) (Name c.args.request) (Refused c.in_ok-kept.kept) (λ history. (tt, ap (λ (own : Request). Name own ∷ []) c.in_ok-kept.ensures.ok)) refl (is_asked c)
    (c.push_reserved.ensures.items ∙ ap (λ (events : List KeptEvents). events ++ Refused c.in_ok-kept.kept ∷ []) c.reserve.ensures.items)
    (lost_fits c.self.inside.cluster c.refuse.new.self c.args.request c.requires (is_asked c)) tt

pub invariant_of-self-2 : goal.invariant_of-self-2
invariant_of-self-2 c = step_reached c.self.inside (Name c.args.request) (left c) c.self.invariant (steps c)

pub returns-clause-world : goal.returns-clause-world
returns-clause-world c = step_past c.self.inside c.args.self.now (Name c.args.request) (left c) c.self.invariant c.self.view_is (steps c)

pub returns-clause-outcome : goal.returns-clause-outcome
returns-clause-outcome c =
    step_outcome c.self.inside c.args.self.now (Name c.args.request) c.in-Ok.outcome c.self.invariant c.self.view_is
    (c.in-Ok.ensures.outcome ∙ ap (λ (own : Request). event_outcome c.self.inside.cluster (Name own)) (is_lent c))

pub invariant_of-self-in_default : goal.invariant_of-self-in_default
invariant_of-self-in_default c =
    still_reached c.self.inside (record (c.self.inside) { cluster = c.refuse.new.self; events = c.reserve.new.self }) refl c.in_default.ensures.err c.reserve.ensures.items c.self.invariant
