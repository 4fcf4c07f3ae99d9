use Rattle.block_effect_laws.proofs.Effects.{addition_keeps, removal_keeps, removals_keep, replication_keeps}
use Rattle.block_effect_laws.proofs.laws.additions_and_removals_keep.Goals as goal

pub returns-clause-addition : goal.returns-clause-addition
returns-clause-addition c = addition_keeps

pub returns-clause-removal : goal.returns-clause-removal
returns-clause-removal c = removal_keeps

pub returns-clause-removals : goal.returns-clause-removals
returns-clause-removals c = removals_keep

pub returns-clause-replication : goal.returns-clause-replication
returns-clause-replication c = replication_keeps
