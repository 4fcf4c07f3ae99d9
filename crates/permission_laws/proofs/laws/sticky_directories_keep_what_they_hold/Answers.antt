use Rattle.std.proofs.Common.{None}
use Rattle.permission_laws.proofs.Checked.{while_on}
use Rattle.permission_laws.proofs.Endings.{done}
use Rattle.permission_laws.proofs.Deciding.{directory_holds}
use Rattle.permission_laws.proofs.Held.{sticky_held}
use Rattle.permission_laws.proofs.laws.sticky_directories_keep_what_they_hold.Goals as goal

pub returns : goal.returns
returns c = λ a path row directory is_done on taken at held sticky.
    sticky_held a.rows a.users a.caller a.op path row directory (while_on a.rows a.users a.caller a.op None on (done a.facts a.rows a.users a.caller a.op is_done).allowed) taken at (directory_holds a.rows path directory held.stands held.kind held.child) sticky
