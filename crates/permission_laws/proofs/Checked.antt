-- The decision where all needs are judged: while permission checking is on, and of what is judged always.
use Rattle.std.proofs.Common.{◌≡◌, ◌∙◌, ℕ, Bool, true, false, List, Option, Some, None, refl, sym}
use Rattle.hdfs_types.specs.Request.{is_for_nodes}
use Rattle.hdfs_types.specs.declared.op.Op.{Op}
use Rattle.hdfs_types.specs.declared.op.Op.TheVariants as op
use Rattle.principals.specs.Users.{Users}
use Rattle.namespace_rows.specs.declared.row.Row.{Row}
use Rattle.required_rights.specs.RequiredRights.{required_rights}
use Rattle.flat_rows.specs.Denial.{Denial}
use Rattle.flat_rows.specs.Decision as judged
use Rattle.flat_rows.specs.Decision.{denial_among, asking_caller}
use Rattle.flat_rows.specs.Judging.{is_strict}
use Rattle.flat_rows.proofs.Judging.{while_checking, strictly_decided, free_while_off}
use Rattle.permission_laws.specs.Attempt.{managed_path, administers}

abbrev pub decision : List Row → Users → List ℕ → Op → Option Denial
decision rows users caller what = denial_among rows (asking_caller users caller what) (required_rights what)

pub while_on : (rows : List Row) (users : Users) (caller : List ℕ) (what : Op) (decided : Option Denial) → users.checking ≡ true → judged.decision rows users caller what ≡ decided → decision rows users caller what ≡ decided
while_on rows users caller what decided on is = sym (while_checking rows users caller what on) ∙ is

pub if_strict : (rows : List Row) (users : Users) (caller : List ℕ) (what : Op) (decided : Option Denial) → is_strict what ≡ true → judged.decision rows users caller what ≡ decided → decision rows users caller what ≡ decided
if_strict rows users caller what decided strict is = strictly_decided rows users caller what strict ∙ is

-- what is denied is denied as if all needs were judged
pub denied_anyway : (rows : List Row) (users : Users) (caller : List ℕ) (what : Op) (denial : Denial) → judged.decision rows users caller what ≡ Some denial → decision rows users caller what ≡ Some denial
denied_anyway rows users caller what denial is = by_checking users.checking refl
  where
    none_is_some : judged.decision rows users caller what ≡ None → None ≡ Some denial
    none_is_some none = sym none ∙ is

    by_op : users.checking ≡ false → (b : Bool) → is_strict what ≡ b → decision rows users caller what ≡ Some denial
    by_op off true strict = if_strict rows users caller what (Some denial) strict is
    by_op off false easy = let no : None ≡ Some denial = none_is_some (free_while_off rows users caller what off easy) in cc

    by_checking : (b : Bool) → users.checking ≡ b → decision rows users caller what ≡ Some denial
    by_checking true on = while_on rows users caller what (Some denial) on is
    by_checking false off = by_op off (is_strict what) refl

pub managed_strict : (what : Op) (path : List (List ℕ)) → managed_path what ≡ Some path → is_strict what ≡ true
managed_strict (op.SetMode own mode) path h = refl
managed_strict (op.SetOwner own owner group) path h = refl
managed_strict (op.SetAcl own change) path h = refl
managed_strict _ path h = cc

pub administration_strict : (what : Op) → administers what ≡ true → is_strict what ≡ true
administration_strict (op.AddUser user groups) h = refl
administration_strict (op.SetGroups user groups) h = refl
administration_strict (op.SetChecking on) h = refl
administration_strict (op.RollKey key) h = refl
administration_strict op.Tick h = refl
administration_strict _ h = cc

pub nodes_strict : (what : Op) → is_for_nodes what ≡ true → is_strict what ≡ true
nodes_strict op.Heartbeat h = refl
nodes_strict (op.Reported replica) h = refl
nodes_strict (op.CommitRecovery recovered) h = refl
nodes_strict _ h = cc
