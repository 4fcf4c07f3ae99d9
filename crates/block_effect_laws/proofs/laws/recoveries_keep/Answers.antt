use Rattle.block_effect_laws.proofs.Effects.{begin_keeps, begins_keep, recovery_keeps}
use Rattle.block_effect_laws.proofs.laws.recoveries_keep.Goals as goal

pub returns-clause-begin : goal.returns-clause-begin
returns-clause-begin c = begin_keeps

pub returns-clause-begins : goal.returns-clause-begins
returns-clause-begins c = begins_keep

pub returns-clause-recovery : goal.returns-clause-recovery
returns-clause-recovery c = recovery_keeps
