use Rattle.kept_bytes_laws.proofs.Reports.{as_told}
use Rattle.kept_bytes_laws.proofs.Reporting.{reporting_are_listed, listed_ascend}
use Rattle.kept_bytes_laws.proofs.Marked.{marked_are_to_go}
use Rattle.kept_bytes_laws.proofs.Deleted.{deleted_are_to_go}
use Rattle.kept_bytes_laws.proofs.laws.reports_are_as_told.Goals as goal

pub returns-clause-told : goal.returns-clause-told
returns-clause-told c = as_told

pub returns-clause-listed : goal.returns-clause-listed
returns-clause-listed c = reporting_are_listed

pub returns-clause-ascending : goal.returns-clause-ascending
returns-clause-ascending c = listed_ascend

pub returns-clause-marked : goal.returns-clause-marked
returns-clause-marked c = marked_are_to_go

pub returns-clause-deleted : goal.returns-clause-deleted
returns-clause-deleted c = deleted_are_to_go
