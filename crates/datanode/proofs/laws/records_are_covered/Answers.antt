use Rattle.datanode.proofs.Records.{covered}
use Rattle.datanode.proofs.laws.records_are_covered.Goals as goal

pub returns : goal.returns
returns c = covered
