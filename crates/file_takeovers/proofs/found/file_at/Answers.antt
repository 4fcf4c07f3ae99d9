use Rattle.std.proofs.Common.{ap, ◌∙◌}
use Rattle.file_takeovers.specs.Found.{file_in}
use Rattle.file_takeovers.proofs.found.file_at.Goals as goal

pub returns : goal.returns
returns c = c.file.ensures ∙ ap file_in c.in-Some.ensures.row
