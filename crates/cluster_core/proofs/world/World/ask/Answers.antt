use Rattle.std.proofs.Common.{◌∷◌, List, length, reverse, refl, sym, ap, ◌∙◌, subst}
use Rattle.cluster_trace.specs.Trace.{entry_of, outcome_of}
use Rattle.cluster_trace.specs.declared.event.Event.TheVariants.{Name}
use Rattle.cluster_parts.specs.Kept.{AreWithin, IsOneMore}
use Rattle.cluster_parts.specs.declared.kept.KeptEvents.{KeptEvents}
use Rattle.cluster_core.specs.declared.world.World.TheInside.{Inside}
use Rattle.cluster_core.proofs.Answering.{taken}
use Rattle.cluster_core.proofs.Reaching.{Steps, asked_steps, step_reached, still_reached, step_past, step_outcome}
use Rattle.cluster_core.proofs.world.World.ask.Goals as goal

abbrev left : goal.After-keep_asked → Inside
left c = record (c.self.inside) { cluster = c.name.new.self; events = c.keep_asked.new.events }

steps : (c : goal.After-keep_asked) → Steps c.self.inside (Name c.args.request) (left c)
steps c =
    let state = c.self.inside.cluster in
    asked_steps c.self.inside (left c) c.args.request c.requires
    (λ within.
    subst (λ (kept : List KeptEvents). IsOneMore (reverse state.entries) kept (Name c.args.request) (reverse (entry_of state c.args.request ∷ state.entries)) c.keep_asked.new.events.items) c.reserve.ensures.items
    (c.keep_asked.ensures state.entries (entry_of state c.args.request) (c.place-entries.ensures.place ∙ ap (λ own. length own.entries) c.core.ensures)
    (subst (λ (kept : List KeptEvents). AreWithin (reverse state.entries) kept) (sym c.reserve.ensures.items) within)))
    refl c.in_ok-outcome.ensures.ok c.in_ok-outcome.ensures.fits

pub invariant_of-self-2 : goal.invariant_of-self-2
invariant_of-self-2 c = step_reached c.self.inside (Name c.args.request) (left c) c.self.invariant (steps c)

pub invariant_of-self-in_err-outcome : goal.invariant_of-self-in_err-outcome
invariant_of-self-in_err-outcome c =
    still_reached c.self.inside (record (c.self.inside) { cluster = c.name.new.self; events = c.reserve.new.self }) refl c.in_err-outcome.ensures.err c.reserve.ensures.items c.self.invariant

pub returns-clause-world : goal.returns-clause-world
returns-clause-world c = step_past c.self.inside c.args.self.now (Name c.args.request) (left c) c.self.invariant c.self.view_is (steps c)

pub returns-clause-outcome : goal.returns-clause-outcome
returns-clause-outcome c =
    step_outcome c.self.inside c.args.self.now (Name c.args.request) c.in_ok-outcome.outcome c.self.invariant c.self.view_is
    (c.in_ok-outcome.ensures.outcome ∙ ap (outcome_of c.self.inside.cluster) (sym (taken c.self.inside.cluster c.args.request c.requires)))
