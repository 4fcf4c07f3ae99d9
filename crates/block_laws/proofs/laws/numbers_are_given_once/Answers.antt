use Rattle.block_laws.proofs.Histories.{ids_ascend, stamps_ascend, known_were_given, stamps_are_own, stamps_are_own_ever, stamps_are_new, recoveries_have_new}
use Rattle.block_laws.proofs.laws.numbers_are_given_once.Goals as goal

pub returns-clause-ids : goal.returns-clause-ids
returns-clause-ids c = ids_ascend

pub returns-clause-stamps : goal.returns-clause-stamps
returns-clause-stamps c = stamps_ascend

pub returns-clause-known : goal.returns-clause-known
returns-clause-known c = known_were_given

pub returns-clause-own : goal.returns-clause-own
returns-clause-own c = stamps_are_own

pub returns-clause-ever : goal.returns-clause-ever
returns-clause-ever c = stamps_are_own_ever

pub returns-clause-fresh : goal.returns-clause-fresh
returns-clause-fresh c = stamps_are_new

pub returns-clause-recoveries : goal.returns-clause-recoveries
returns-clause-recoveries c = recoveries_have_new
