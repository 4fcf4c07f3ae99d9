use Rattle.cluster_laws.proofs.Lasting.{last}
use Rattle.cluster_laws.proofs.laws.grants_last_one_lifetime.Goals as goal

pub returns : goal.returns
returns c = last
