use Rattle.std.proofs.Common.{arith}
use Rattle.script_text.proofs.Counts.{no_verb}
use Rattle.script_text.proofs.line.request_of.Goals as goal

pub returns-in_default : goal.returns-in_default
returns-in_default c = no_verb c.args.words.now (omega arith)
