use Rattle.permission_bits.proofs.RightsText.{read_again}
use Rattle.permission_bits.proofs.rights.rights_have_one_spelling.Goals as goal

pub returns-clause-read : goal.returns-clause-read
returns-clause-read c = read_again
