use Rattle.std.proofs.Common.{ap, sym, ◌∙◌}
use Rattle.std.specs.Prelude.{slice_get}
use Rattle.token_provenance.specs.Index.{repeats_first}
use Rattle.token_provenance.proofs.Places.{first_repeated, none_repeated}
use Rattle.token_provenance.proofs.index.TokenRows.first_is_repeated.Goals as goal

pub returns-in-Some : goal.returns-in-Some
returns-in-Some c = c.repeats.ensures
    ∙ (sym (first_repeated c.self.inside.rows.items c.in-Some.first.now c.args.row.now (c.in-Some.ensures.value ∙ ap (λ rows. slice_get rows 0) c.deref.ensures.value))
    ∙ ap (λ rows. repeats_first rows c.args.row.now) c.self.view_is)

pub returns-in-None : goal.returns-in-None
returns-in-None c =
    sym (none_repeated c.self.inside.rows.items c.args.row.now (c.in-None.ensures.value ∙ ap (λ rows. slice_get rows 0) c.deref.ensures.value))
    ∙ ap (λ rows. repeats_first rows c.args.row.now) c.self.view_is
