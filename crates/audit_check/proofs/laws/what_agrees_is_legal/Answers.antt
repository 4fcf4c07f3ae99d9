use Rattle.audit_check.proofs.Legality.{agreed_legal}
use Rattle.audit_check.proofs.laws.what_agrees_is_legal.Goals as goal

pub returns : goal.returns
returns c = λ claims agree legal. agreed_legal claims agree legal
