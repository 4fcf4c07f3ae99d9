use Rattle.std.proofs.Common.{◌≡◌, None, subst}
use Rattle.permission_laws.proofs.Checked.{decision, while_on}
use Rattle.permission_laws.proofs.Endings.{done}
use Rattle.permission_laws.proofs.LastAbove.{last_is_ancestor}
use Rattle.permission_laws.proofs.Held.{made_held, opened_held, altered_held, listed_held, counted_held}
use Rattle.permission_laws.proofs.laws.what_is_done_has_its_rights.Goals as goal

pub returns-clause-made : goal.returns-clause-made
returns-clause-made c = λ a path above namespace on is_done made missing at.
    made_held a.rows a.users a.caller a.op path above (while_on a.rows a.users a.caller a.op None on (done a.facts a.rows a.users a.caller a.op is_done).allowed) made missing (last_is_ancestor a.rows namespace path above at.stands at.above_path at.last)

pub returns-clause-opened : goal.returns-clause-opened
returns-clause-opened c = λ a path file is_done on asked at. opened_held a.rows a.users a.caller path file (subst (λ o. decision a.rows a.users a.caller o ≡ None) asked (while_on a.rows a.users a.caller a.op None on (done a.facts a.rows a.users a.caller a.op is_done).allowed)) at

pub returns-clause-altered : goal.returns-clause-altered
returns-clause-altered c = λ a path file is_done on altered at kind. altered_held a.rows a.users a.caller a.op path file (while_on a.rows a.users a.caller a.op None on (done a.facts a.rows a.users a.caller a.op is_done).allowed) altered at kind

pub returns-clause-listed : goal.returns-clause-listed
returns-clause-listed c = λ a path directory is_done on asked at kind. listed_held a.rows a.users a.caller path directory (subst (λ o. decision a.rows a.users a.caller o ≡ None) asked (while_on a.rows a.users a.caller a.op None on (done a.facts a.rows a.users a.caller a.op is_done).allowed)) at kind

pub returns-clause-counted : goal.returns-clause-counted
returns-clause-counted c = λ a path directory is_done on asked at kind inside. counted_held a.rows a.users a.caller path directory (subst (λ o. decision a.rows a.users a.caller o ≡ None) asked (while_on a.rows a.users a.caller a.op None on (done a.facts a.rows a.users a.caller a.op is_done).allowed)) at kind inside
