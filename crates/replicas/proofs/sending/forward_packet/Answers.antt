use Rattle.std.proofs.lemmas.Grind.{common_steps}
use Rattle.std.proofs.Common.{arith}
use Rattle.replicas.proofs.sending.forward_packet.Goals as goal

pub returns-in_ok-clone-in-len1-up : goal.returns-in_ok-clone-in-len1-up
returns-in_ok-clone-in-len1-up c = grind (arith, common_steps)
