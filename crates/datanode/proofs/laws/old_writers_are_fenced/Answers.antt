use Rattle.datanode.proofs.Records.{fenced, unchanged}
use Rattle.datanode.proofs.laws.old_writers_are_fenced.Goals as goal

pub returns-clause-fenced : goal.returns-clause-fenced
returns-clause-fenced c = fenced

pub returns-clause-refused : goal.returns-clause-refused
returns-clause-refused c = unchanged
