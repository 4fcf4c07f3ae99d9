use Rattle.key_laws.proofs.Rolling.{ended, served, tokens}
use Rattle.key_laws.proofs.laws.rolled_keys_serve_on.Goals as goal

pub returns-clause-served : goal.returns-clause-served
returns-clause-served c = served

pub returns-clause-ended : goal.returns-clause-ended
returns-clause-ended c = ended

pub returns-clause-tokens : goal.returns-clause-tokens
returns-clause-tokens c = tokens
