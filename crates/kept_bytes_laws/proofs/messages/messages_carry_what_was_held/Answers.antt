use Rattle.kept_bytes_laws.proofs.Carried.{answers_are_held, updates_set_the_length}
use Rattle.kept_bytes_laws.proofs.NotedCommits.{commits_name_the_updated}
use Rattle.kept_bytes_laws.proofs.messages.messages_carry_what_was_held.Goals as goal

pub returns-clause-answers : goal.returns-clause-answers
returns-clause-answers c = answers_are_held

pub returns-clause-commits : goal.returns-clause-commits
returns-clause-commits c = commits_name_the_updated

pub returns-clause-updates : goal.returns-clause-updates
returns-clause-updates c = updates_set_the_length
