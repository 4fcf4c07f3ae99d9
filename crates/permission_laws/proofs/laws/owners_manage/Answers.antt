use Rattle.std.proofs.Common.{◌≡◌, None, ap, subst}
use Rattle.permission_laws.proofs.Endings.{done}
use Rattle.flat_rows.specs.Judging.{is_strict}
use Rattle.permission_laws.proofs.Checked.{decision, if_strict, managed_strict}
use Rattle.hdfs_values.specs.Text.{same}
use Rattle.principals.specs.Users.{is_super}
use Rattle.permission_laws.proofs.Held.{first_only, managed_held, kept_by_owner, given_to_own_group}
use Rattle.permission_laws.proofs.laws.owners_manage.Goals as goal

pub returns-clause-others : goal.returns-clause-others
returns-clause-others c = λ a path row is_done managed at. managed_held a.rows a.users a.caller a.op path row (if_strict a.rows a.users a.caller a.op None (managed_strict a.op path managed) (done a.facts a.rows a.users a.caller a.op is_done).allowed) managed at

pub returns-clause-owners : goal.returns-clause-owners
returns-clause-owners c = λ a path user group row is_done asked at other.
    first_only (is_super a.users a.caller) (same user row.owner) other
    (kept_by_owner a.rows a.users a.caller path user group row
    (subst (λ o. decision a.rows a.users a.caller o ≡ None) asked (if_strict a.rows a.users a.caller a.op None (ap is_strict asked) (done a.facts a.rows a.users a.caller a.op is_done).allowed)) at)

pub returns-clause-groups : goal.returns-clause-groups
returns-clause-groups c = λ a path owner group row is_done asked at.
    given_to_own_group a.rows a.users a.caller path owner group row
    (subst (λ o. decision a.rows a.users a.caller o ≡ None) asked (if_strict a.rows a.users a.caller a.op None (ap is_strict asked) (done a.facts a.rows a.users a.caller a.op is_done).allowed)) at
