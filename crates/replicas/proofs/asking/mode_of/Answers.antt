use Rattle.std.proofs.Common.{rules}
use Rattle.replicas.proofs.asking.mode_of.Goals as goal

pub returns-in-SendCopy : goal.returns-in-SendCopy
returns-in-SendCopy c = search rules
