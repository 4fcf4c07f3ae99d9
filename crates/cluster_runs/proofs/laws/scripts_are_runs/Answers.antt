use Rattle.cluster_runs.proofs.Runs.{are_runs}
use Rattle.cluster_runs.proofs.laws.scripts_are_runs.Goals as goal

pub returns : goal.returns
returns c = are_runs
