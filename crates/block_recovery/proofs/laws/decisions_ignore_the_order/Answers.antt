use Rattle.std.proofs.Common.{ap}
use Rattle.block_recovery.specs.Decision.{decision_of}
use Rattle.block_recovery.proofs.Lookups.{same_table}
use Rattle.block_recovery.proofs.laws.decisions_ignore_the_order.Goals as goal

pub returns : goal.returns
returns c = λ answers others up down same. ap decision_of (same_table answers others up down same)
