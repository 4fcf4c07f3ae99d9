use Rattle.key_laws.proofs.Rolling.{expired, fresh, ordered}
use Rattle.key_laws.proofs.laws.rolls_bring_new_keys.Goals as goal

pub returns-clause-ordered : goal.returns-clause-ordered
returns-clause-ordered c = ordered

pub returns-clause-fresh : goal.returns-clause-fresh
returns-clause-fresh c = fresh

pub returns-clause-expired : goal.returns-clause-expired
returns-clause-expired c = expired
