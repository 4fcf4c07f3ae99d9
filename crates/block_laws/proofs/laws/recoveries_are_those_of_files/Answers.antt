use Rattle.block_laws.proofs.Overdue.{are_those_of_files, one_file_recovers, files_recover_last, overdue_are_due}
use Rattle.block_laws.proofs.laws.recoveries_are_those_of_files.Goals as goal

pub returns-clause-same : goal.returns-clause-same
returns-clause-same c = are_those_of_files

pub returns-clause-alone : goal.returns-clause-alone
returns-clause-alone c = one_file_recovers

pub returns-clause-last : goal.returns-clause-last
returns-clause-last c = files_recover_last

pub returns-clause-due : goal.returns-clause-due
returns-clause-due c = overdue_are_due
