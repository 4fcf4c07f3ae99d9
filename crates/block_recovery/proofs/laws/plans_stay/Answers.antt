use Rattle.block_recovery.proofs.Steps.{stay, begun_once}
use Rattle.block_recovery.proofs.laws.plans_stay.Goals as goal

pub returns-clause-stay : goal.returns-clause-stay
returns-clause-stay c = λ call plans block stamp plan h found. stay call plans block stamp plan h found

pub returns-clause-once : goal.returns-clause-once
returns-clause-once c = λ recover plans plan found. begun_once recover plans plan found
