use Rattle.std.proofs.Common.{arith}
use Rattle.cluster_text.proofs.Counts.{no_verb}
use Rattle.cluster_text.proofs.event_line.event_of.Goals as goal

pub returns-in_default : goal.returns-in_default
returns-in_default c = no_verb c.args.ledger.now c.args.words.now (omega arith)
