use Rattle.block_laws.proofs.Histories.{stamps_never_fall, lengths_stay}
use Rattle.block_laws.proofs.laws.what_is_committed_stays.Goals as goal

pub returns-clause-stamps : goal.returns-clause-stamps
returns-clause-stamps c = stamps_never_fall

pub returns-clause-lengths : goal.returns-clause-lengths
returns-clause-lengths c = lengths_stay
