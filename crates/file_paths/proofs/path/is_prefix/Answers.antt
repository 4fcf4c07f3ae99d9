use Rattle.std.proofs.Common.{◌∙◌, arith}
use Rattle.std.proofs.lemmas.Bool.Decides.{nat_tests}
use Rattle.file_paths.proofs.Beneath.{starts_front, not_starts}
use Rattle.file_paths.proofs.path.is_prefix.Goals as goal

pub returns-then-depth-names : goal.returns-then-depth-names
returns-then-depth-names c = c.is_same.ensures ∙ starts_front c.args.front.now c.args.names.now (omega arith)

pub returns-else-depth-names : goal.returns-else-depth-names
returns-else-depth-names c = grind (arith, nat_tests, not_starts c.args.front.now c.args.names.now (omega arith))
