use Rattle.std.proofs.Common.{◌∙◌, arith}
use Rattle.std.proofs.lemmas.Bool.Decides.{nat_tests}
use Rattle.file_paths.proofs.Beneath.{beneath_front, not_beneath}
use Rattle.file_paths.proofs.path.is_proper_prefix.Goals as goal

pub returns-then-depth-names : goal.returns-then-depth-names
returns-then-depth-names c = c.is_same.ensures ∙ beneath_front c.args.names.now c.args.front.now (omega arith)

pub returns-else-depth-names : goal.returns-else-depth-names
returns-else-depth-names c = grind (arith, nat_tests, not_beneath c.args.names.now c.args.front.now (omega arith))
