use Rattle.block_recovery.proofs.Steps.{none_right, stay_right}
use Rattle.block_recovery.proofs.laws.plans_are_right.Goals as goal

pub returns : goal.returns
returns c = record { right = (none_right, λ call plans h right. stay_right call plans h right) }
