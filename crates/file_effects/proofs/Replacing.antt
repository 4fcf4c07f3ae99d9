-- A creation that replaces nothing ends no client's open file.
use Rattle.std.proofs.Common.{◌≡◌, ℕ, Bool, true, false, not, List, [], Option, Some, None, refl, sym, ap, cond}
use Rattle.hdfs_types.specs.declared.op.Op.TheVariants as op
use Rattle.refusals.specs.declared.refusal.Refusal.TheVariants.{IsDirectory, Exists}
use Rattle.principals.specs.Users.{Users}
use Rattle.namespace_rows.specs.declared.row.Row.{Row}
use Rattle.namespace_rows.specs.Namespace.{IsNamespace}
use Rattle.namespace_rows.specs.Rows.{is_none, is_directory, is_missing, is_some_where, has_file, row_at}
use Rattle.namespace_rows.specs.Changes.{rows_under}
use Rattle.namespace_rows.specs.Files.{holders}
use Rattle.flat_rows.specs.FileOutcome.{directory_there, file_there}
use Rattle.history.proofs.Apart.{missing_apart, none_under}
use Rattle.file_effects.specs.Effected.{IsFree}
use Rattle.file_effects.proofs.Effects.{free_create}

absent : (at : Option Row) → directory_there at ≡ None → file_there false at ≡ None → is_none at ≡ true
absent None d f = refl
absent (Some row) d f = by (is_directory row) d f
  where
    by : (b : Bool) → cond b (Some IsDirectory) None ≡ None → cond b None (Some Exists) ≡ None → is_none (Some row) ≡ true
    by true d f = cc
    by false d f = cc

pub nothing_replaced : (path : List (List ℕ)) (mode replication : ℕ) (caller : List ℕ) (rows : List Row) (users : Users) → IsNamespace rows → IsFree (op.Create path mode replication false) caller rows users
    → [] ≡ holders (rows_under path rows)
nothing_replaced path mode replication caller rows users namespace free =
    let clear = free_create path mode replication false caller rows users free in
    sym (ap holders (none_under path rows (missing_apart rows path namespace (absent (row_at path rows) clear.1 clear.2))))

-- what has the path is a file
pub file_stands : (path : List (List ℕ)) (rows : List Row) → is_missing path rows ≡ false → directory_there (row_at path rows) ≡ None → has_file path rows ≡ true
file_stands path rows there file = by (row_at path rows) there file
  where
    no_directory : (b : Bool) → cond b (Some IsDirectory) None ≡ None → not b ≡ true
    no_directory true f = cc
    no_directory false f = refl

    by : (at : Option Row) → is_none at ≡ false → directory_there at ≡ None → is_some_where (λ row. not (is_directory row)) at ≡ true
    by None t f = cc
    by (Some row) t f = no_directory (is_directory row) f
