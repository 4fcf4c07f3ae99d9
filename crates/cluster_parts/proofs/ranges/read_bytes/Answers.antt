use Rattle.std.proofs.Common.{arith}
use Rattle.cluster_parts.proofs.ranges.read_bytes.Goals as goal

pub returns : goal.returns
returns c = λ i. omega (arith, c.type_inv.bytes i)
