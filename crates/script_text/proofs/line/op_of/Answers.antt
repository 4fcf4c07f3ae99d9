use Rattle.std.proofs.Common.{arith}
use Rattle.script_text.proofs.Counts.{too_many}
use Rattle.script_text.proofs.line.op_of.Goals as goal

pub returns-in_default : goal.returns-in_default
returns-in_default c = too_many c.args.verb.now c.args.words.now (omega arith)
