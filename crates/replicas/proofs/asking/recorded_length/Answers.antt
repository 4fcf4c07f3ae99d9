use Rattle.std.proofs.Common.{rules}
use Rattle.replicas.proofs.asking.recorded_length.Goals as goal

pub returns-in-Read : goal.returns-in-Read
returns-in-Read c = search rules
