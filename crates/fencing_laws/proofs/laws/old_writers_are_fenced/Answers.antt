use Rattle.fencing_laws.proofs.Promises.{promises_stay, stamps_stay}
use Rattle.fencing_laws.proofs.Writers.{fenced_later}
use Rattle.fencing_laws.proofs.laws.old_writers_are_fenced.Goals as goal

pub returns-clause-promises : goal.returns-clause-promises
returns-clause-promises c = promises_stay

pub returns-clause-stamps : goal.returns-clause-stamps
returns-clause-stamps c = stamps_stay

pub returns-clause-fenced : goal.returns-clause-fenced
returns-clause-fenced c = fenced_later
