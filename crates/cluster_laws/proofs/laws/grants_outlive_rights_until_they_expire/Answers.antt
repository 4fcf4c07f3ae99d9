use Rattle.cluster_laws.proofs.Grants.{outlive, end}
use Rattle.cluster_laws.proofs.laws.grants_outlive_rights_until_they_expire.Goals as goal

pub returns-clause-outlive : goal.returns-clause-outlive
returns-clause-outlive c = outlive

pub returns-clause-end : goal.returns-clause-end
returns-clause-end c = end
