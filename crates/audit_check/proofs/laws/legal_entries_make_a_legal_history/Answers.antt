use Rattle.audit_check.proofs.Legality.{legal_whole}
use Rattle.audit_check.proofs.laws.legal_entries_make_a_legal_history.Goals as goal

pub returns : goal.returns
returns c = λ opening history all. legal_whole opening history all
