use Rattle.std.proofs.Common.{rules}
use Rattle.token_provenance.proofs.index.repeats.Goals as goal

pub returns-then-have_one_token : goal.returns-then-have_one_token
returns-then-have_one_token c = search rules

pub returns-else-have_one_token : goal.returns-else-have_one_token
returns-else-have_one_token c = search rules
