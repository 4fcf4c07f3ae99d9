use Rattle.std.proofs.Common.{sym, subst, ◌∙◌}
use Rattle.std.specs.Prelude.{IfSome}
use Rattle.perm_walk.specs.Reached.{IsCounted}
use Rattle.write_rules.proofs.write.may_have_files.Goals as goal

pub returns-in-Some : goal.returns-in-Some
returns-in-Some c = λ path rows is none.
    let told : IsCounted path rows c.in-Some.counted = subst (λ counted. IfSome counted (IsCounted path rows)) c.in-Some.is is in
    sym told.files ∙ none
