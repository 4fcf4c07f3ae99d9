use Rattle.forgery_laws.proofs.Sent.{nothing_is_forged}
use Rattle.forgery_laws.proofs.laws.clients_alone_forge.Goals as goal

pub returns : goal.returns
returns c = nothing_is_forged
