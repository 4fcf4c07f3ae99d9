use Rattle.cluster_laws.proofs.Growing.{grow, lost}
use Rattle.cluster_laws.proofs.laws.histories_only_grow.Goals as goal

pub returns-clause-grow : goal.returns-clause-grow
returns-clause-grow c = grow

pub returns-clause-lost : goal.returns-clause-lost
returns-clause-lost c = lost
