use Rattle.audit_check.proofs.Owning.{received, own_receipts, stands, own_entries}
use Rattle.audit_check.proofs.laws.what_agrees_loses_nothing.Goals as goal

pub returns-clause-told : goal.returns-clause-told
returns-clause-told c = λ claims before entry agree since at. received claims agree before entry since at

pub returns-clause-entries : goal.returns-clause-entries
returns-clause-entries c = λ claims one other entry another agree since also at there passes indexes. own_receipts claims agree one other entry another since also at there passes indexes

pub returns-clause-kept : goal.returns-clause-kept
returns-clause-kept c = λ claims pass index answer agree told change. stands claims agree pass index answer told change

pub returns-clause-changes : goal.returns-clause-changes
returns-clause-changes c = λ claims pass index other_pass other_index answer another agree told also change too places. own_entries claims agree pass index other_pass other_index answer another told also change too places
