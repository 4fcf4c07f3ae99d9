use Rattle.std.proofs.Common.{◌++◌, ◌∷◌, [], refl, ap, ◌∙◌}
use Rattle.history.specs.ClockAndLease.{last_renewal}
use Rattle.history.specs.declared.entry.HistoryEntry.{HistoryEntry}
use Rattle.name_core.specs.declared.namenode.NameCore.TheInside.{Inside}
use Rattle.name_core.specs.NameCore.{with_next_entry}
use Rattle.name_core.specs.Kept.{entries_of}
use Rattle.name_core.proofs.Keeping.{Adds, kept_more}
use Rattle.name_core.proofs.Recoveries.{known}
use Rattle.name_core.proofs.Recording.{adds_of, appended}
use Rattle.name_core.proofs.namenode.NameCore.append.Goals as goal

abbrev after : goal.After-add_entry → Inside
after c = record (c.self.inside) { system = c.perform.new.system; open_paths = c.perform.new.open_paths; ledger = c.perform.new.ledger; clock = c.later-clock.result; history = c.add_entry.new.history }

abbrev entry : goal.After-add_entry → HistoryEntry
entry c = record { place = c.in-Ok.place; pass = c.args.pass; index = c.args.index; request = c.args.request; verdict = c.in-Ok-perform.verdict }

added : (c : goal.After-add_entry) → Adds c.self.inside (after c) (entry c)
added c =
    adds_of c.self.inside (after c) c.args.request c.args.request c.in-Ok.place c.args.pass c.args.index c.in-Ok-perform.verdict refl refl
    (c.add_entry.ensures ∙ ap (λ items. items ++ entry c ∷ []) c.in-Ok.ensures.history) c.later-clock.ensures (c.in-Ok-perform.ensures.ok (last_renewal (entries_of c.self.inside)) c.self.invariant.exact)
    c.in-Ok-perform.ensures.limits c.in-Ok-perform.ensures.latest c.in-Ok.ensures.place c.in-Ok-perform.ensures.ledger

pub perform-requires-clause-recoveries : goal.perform-requires-clause-recoveries
perform-requires-clause-recoveries c = known c.self.inside c.later-clock.result c.self.invariant

pub invariant_of-self-2 : goal.invariant_of-self-2
invariant_of-self-2 c = kept_more c.self.inside (after c) (entry c) c.self.invariant (added c)

pub returns-clause-ok : goal.returns-clause-ok
returns-clause-ok c =
    appended c.self.inside (after c) c.args.request c.in-Ok.place c.args.pass c.args.index c.in-Ok-perform.verdict c.self.invariant (added c)
    ∙ ap (λ core. with_next_entry core c.args.pass c.args.index c.args.request) c.self.view_is
