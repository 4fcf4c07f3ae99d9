use Rattle.forgery_laws.proofs.Scripts.{forge_nothing}
use Rattle.forgery_laws.proofs.laws.scripts_forge_nothing.Goals as goal

pub returns : goal.returns
returns c = forge_nothing
