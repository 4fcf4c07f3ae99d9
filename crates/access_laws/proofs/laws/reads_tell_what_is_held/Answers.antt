use Rattle.access_laws.proofs.Reading.{read_is_held}
use Rattle.access_laws.proofs.laws.reads_tell_what_is_held.Goals as goal

pub returns : goal.returns
returns c = read_is_held
