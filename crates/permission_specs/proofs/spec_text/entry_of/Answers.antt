use Rattle.std.proofs.Common.{refl}
use Rattle.permission_specs.proofs.SpecFields.{cut_too_often}
use Rattle.permission_specs.proofs.spec_text.entry_of.Goals as goal

pub returns-in-Some-cut_at-3 : goal.returns-in-Some-cut_at-3
returns-in-Some-cut_at-3 c = (
  refl,
  cut_too_often c.args.with_rights c.args.text.now _ c.in-Some.rest.now _ c.in-Some-cut_at.rest.now _ c.in-Some-cut_at-2.rest.now _ c.in-Some-cut_at-3.field-0.1.now
      c.in-Some.ensures.pieces c.in-Some-cut_at.ensures.pieces c.in-Some-cut_at-2.ensures.pieces c.in-Some-cut_at-3.ensures.pieces,
)
