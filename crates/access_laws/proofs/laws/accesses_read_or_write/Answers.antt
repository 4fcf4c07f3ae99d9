use Rattle.access_laws.proofs.Noted.{readers, writers}
use Rattle.access_laws.proofs.laws.accesses_read_or_write.Goals as goal

pub returns-clause-readers : goal.returns-clause-readers
returns-clause-readers c = readers

pub returns-clause-writers : goal.returns-clause-writers
returns-clause-writers c = writers
