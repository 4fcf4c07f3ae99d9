use Rattle.fencing_laws.proofs.Decided.{updates_carry_decisions, updates_are_decided, commits_are_decided}
use Rattle.fencing_laws.proofs.laws.decisions_are_carried.Goals as goal

pub returns-clause-asked : goal.returns-clause-asked
returns-clause-asked c = updates_carry_decisions

pub returns-clause-updates : goal.returns-clause-updates
returns-clause-updates c = updates_are_decided

pub returns-clause-commits : goal.returns-clause-commits
returns-clause-commits c = commits_are_decided
