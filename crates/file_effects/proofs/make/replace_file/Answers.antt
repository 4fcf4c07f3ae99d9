use Rattle.std.proofs.Common.{◌∙◌}
use Rattle.file_effects.proofs.Replacing.{file_stands}
use Rattle.file_effects.proofs.make.replace_file.Goals as goal

pub replace-requires-clause-there : goal.replace-requires-clause-there
replace-requires-clause-there c = file_stands c.args.path.now c.args.tree.now c.requires.there c.requires.file

pub replace-requires-clause-parent : goal.replace-requires-clause-parent
replace-requires-clause-parent c = c.in-Ok.ensures.made.held

pub returns-clause-ok : goal.returns-clause-ok
returns-clause-ok c = c.replace.ensures ∙ c.in-Ok.ensures.made.made c.args.file
