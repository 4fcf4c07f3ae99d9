use Rattle.outcome_laws.proofs.Codes.{same_kinds, begins}
use Rattle.outcome_laws.proofs.laws.refusals_have_codes_of_their_own.Goals as goal

pub returns-clause-kinds : goal.returns-clause-kinds
returns-clause-kinds c = same_kinds

pub returns-clause-texts : goal.returns-clause-texts
returns-clause-texts c = begins
