use Rattle.std.proofs.Common.{◌≡◌, ◌∷◌, [], ◌++◌, List, reverse, sym, ap, ◌∙◌, subst}
use Rattle.cluster_trace.specs.declared.event.Event.TheVariants.{Name}
use Rattle.cluster_parts.specs.Kept.{AreWithin, IsOneMore}
use Rattle.cluster_parts.specs.declared.kept.KeptEvents.{KeptEvents}
use Rattle.cluster_parts.specs.declared.kept.KeptEvents.TheVariants.{Asked}
use Rattle.cluster_parts.proofs.Keeping.{kept_alone, kept_behind}
use Rattle.cluster_parts.proofs.kept.keep_asked.Goals as goal

pub returns-in-Some-longer : goal.returns-in-Some-longer
returns-in-Some-longer c = λ earlier entry at within.
    let front : List KeptEvents = c.pop.new.self.items in
    let told = c.in-Some-longer.ensures in
    let before : c.args.events.now.items ≡ front ++ Asked told.0 told.1 ∷ [] = c.in-Some.ensures.items ∙ ap (λ (own : KeptEvents). front ++ own ∷ []) told.2 in
    let behind : c.push_reserved-in-Some-longer.new.self.items ≡ front ++ Asked told.0 c.args.entries ∷ [] = c.push_reserved-in-Some-longer.ensures.items ∙ ap (λ (own : KeptEvents). front ++ own ∷ []) told.4 in
    subst (λ (kept : List KeptEvents). IsOneMore (reverse earlier) kept (Name entry.request) (reverse (entry ∷ earlier)) c.push_reserved-in-Some-longer.new.self.items) (sym before)
    (subst (λ (left : List KeptEvents). IsOneMore (reverse earlier) (front ++ Asked told.0 told.1 ∷ []) (Name entry.request) (reverse (entry ∷ earlier)) left) (sym behind)
    (kept_behind earlier entry front told.0 told.1 c.args.entries at told.3 (subst (λ (kept : List KeptEvents). AreWithin (reverse earlier) kept) before within)))

pub returns : goal.returns
returns c = λ earlier entry at within.
    let all : c.push_reserved-3.new.self.items ≡ c.args.events.now.items ++ Asked c.args.entries c.args.entries ∷ [] =
    c.push_reserved-3.ensures.items ∙ ap (λ (own : List KeptEvents). own ++ Asked c.args.entries c.args.entries ∷ []) (c.push_reserved-2.ensures.items ∙ sym c.in-Some.ensures.items) in
    subst (λ (left : List KeptEvents). IsOneMore (reverse earlier) c.args.events.now.items (Name entry.request) (reverse (entry ∷ earlier)) left) (sym all)
    (kept_alone earlier entry c.args.events.now.items c.args.entries at within)
