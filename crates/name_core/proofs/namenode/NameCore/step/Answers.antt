use Rattle.std.proofs.Common.{◌++◌, ◌∷◌, [], refl, sym, ap, ◌∙◌, subst}
use Rattle.history.specs.ClockAndLease.{last_renewal}
use Rattle.history.specs.declared.entry.HistoryEntry.{HistoryEntry}
use Rattle.name_core.specs.declared.namenode.NameCore.TheInside.{Inside}
use Rattle.name_core.specs.NameCore.{Steps}
use Rattle.name_core.specs.Kept.{core_of, entries_of}
use Rattle.name_core.proofs.Keeping.{Adds, kept_more, kept_undone}
use Rattle.name_core.proofs.Recoveries.{known}
use Rattle.name_core.proofs.Recording.{adds_of, recorded}
use Rattle.name_core.proofs.namenode.NameCore.step.Goals as goal

abbrev after : goal.After-record → Inside
after c = record (c.self.inside) { system = c.perform_with_copy.new.system; open_paths = c.perform_with_copy.new.open_paths; ledger = c.perform_with_copy.new.ledger; clock = c.later-now.result; history = c.record.new.history }

abbrev entry : goal.After-record → HistoryEntry
entry c = record { place = c.in_ok-place.place; pass = c.args.pass; index = c.args.index; request = c.in_ok-copies.copies.kept; verdict = c.in-Ok.told.verdict }

added : (c : goal.After-record) → Adds c.self.inside (after c) (entry c)
added c =
    adds_of c.self.inside (after c) c.in_ok-copies.copies.kept c.args.request.now c.in_ok-place.place c.args.pass c.args.index c.in-Ok.told.verdict c.in_ok-copies.ensures.kept refl
    (c.record.ensures.history ∙ ap (λ items. items ++ entry c ∷ []) c.in_ok-place.ensures.history) c.later-now.ensures (c.in-Ok.ensures.ok (last_renewal (entries_of c.self.inside)) c.self.invariant.exact)
    c.in-Ok.ensures.limits c.in-Ok.ensures.latest c.in_ok-place.ensures.place c.in-Ok.ensures.ledger

pub perform_with_copy-requires-clause-recoveries : goal.perform_with_copy-requires-clause-recoveries
perform_with_copy-requires-clause-recoveries c = known c.self.inside c.later-now.result c.self.invariant

pub invariant_of-self-in_default : goal.invariant_of-self-in_default
invariant_of-self-in_default c =
    kept_undone c.self.inside
    (record (c.self.inside) { system = c.perform_with_copy.new.system; open_paths = c.perform_with_copy.new.open_paths; ledger = c.perform_with_copy.new.ledger; history = c.next_place.new.history })
    c.self.invariant refl c.in_ok-place.ensures.history refl c.in_default.ensures.err_ledger (c.in_default.ensures.err (last_renewal (entries_of c.self.inside)) c.self.invariant.exact)

pub invariant_of-self-2 : goal.invariant_of-self-2
invariant_of-self-2 c = kept_more c.self.inside (after c) (entry c) c.self.invariant (added c)

pub returns-clause-ok : goal.returns-clause-ok
returns-clause-ok c =
    rw (← c.self.view_is)
    (subst (λ answer. Steps (core_of c.self.inside) c.args.pass c.args.index c.args.request.now answer (core_of (after c))) (sym c.record.ensures.answer)
    (recorded c.self.inside (after c) c.in_ok-copies.copies.kept c.in_ok-copies.copies.answered c.args.request.now c.in_ok-place.place c.args.pass c.args.index c.in-Ok.told c.self.invariant c.in_ok-copies.ensures.kept c.in_ok-copies.ensures.answered
    c.in-Ok.ensures.copy (added c)))
