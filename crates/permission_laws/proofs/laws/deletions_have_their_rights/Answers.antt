use Rattle.std.proofs.Common.{◌≡◌, None, subst}
use Rattle.permission_laws.proofs.Endings.{done}
use Rattle.permission_laws.proofs.Checked.{decision, while_on}
use Rattle.permission_laws.proofs.Deciding.{directory_holds}
use Rattle.permission_laws.proofs.Held.{parent_held, all_held}
use Rattle.permission_laws.proofs.laws.deletions_have_their_rights.Goals as goal

pub returns-clause-directory : goal.returns-clause-directory
returns-clause-directory c = λ a path directory is_done on taken held. parent_held a.rows a.users a.caller a.op path directory (while_on a.rows a.users a.caller a.op None on (done a.facts a.rows a.users a.caller a.op is_done).allowed) taken (directory_holds a.rows path directory held.stands held.kind held.child)

pub returns-clause-beneath : goal.returns-clause-beneath
returns-clause-beneath c = λ a path recursive directory is_done on asked at kind inside.
    all_held a.rows a.users a.caller path recursive directory
    (subst (λ o. decision a.rows a.users a.caller o ≡ None) asked (while_on a.rows a.users a.caller a.op None on (done a.facts a.rows a.users a.caller a.op is_done).allowed)) at kind inside
