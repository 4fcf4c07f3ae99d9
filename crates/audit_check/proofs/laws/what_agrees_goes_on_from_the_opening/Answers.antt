use Rattle.audit_check.proofs.Legality.{agreed_front}
use Rattle.audit_check.proofs.laws.what_agrees_goes_on_from_the_opening.Goals as goal

pub returns : goal.returns
returns c = λ claims agree. agreed_front claims agree
