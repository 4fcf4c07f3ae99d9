use Rattle.std.proofs.Common.{sym, ap, ◌∙◌}
use Rattle.std.specs.List.{slice_get}
use Rattle.name_core.proofs.Looking.{newest_first}
use Rattle.name_core.proofs.namenode.NameCore.last.Goals as goal

pub returns : goal.returns
returns c = c.last.ensures.value ∙ sym (newest_first c.history.result.now) ∙ ap (λ entries. slice_get entries 0) c.history.ensures.entries
