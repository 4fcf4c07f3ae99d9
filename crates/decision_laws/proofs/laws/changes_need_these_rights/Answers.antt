use Rattle.decision_laws.proofs.Entitled.{create_exact, delete_exact, mkdirs_exact, rename_exact}
use Rattle.decision_laws.proofs.laws.changes_need_these_rights.Goals as goal

pub returns-clause-mkdirs : goal.returns-clause-mkdirs
returns-clause-mkdirs c = mkdirs_exact

pub returns-clause-create : goal.returns-clause-create
returns-clause-create c = create_exact

pub returns-clause-delete : goal.returns-clause-delete
returns-clause-delete c = delete_exact

pub returns-clause-rename : goal.returns-clause-rename
returns-clause-rename c = rename_exact
