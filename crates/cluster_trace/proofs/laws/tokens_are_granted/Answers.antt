use Rattle.cluster_trace.proofs.Right.{all_right}
use Rattle.cluster_trace.proofs.laws.tokens_are_granted.Goals as goal

pub returns : goal.returns
returns c = all_right
