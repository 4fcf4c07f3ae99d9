-- What a walk to what has a path finds: the first need that fails, or where none does what has the path, or the refusal of one that nothing has;
-- and the same of a file.
use Rattle.std.specs.Prelude.{◌≡◌, ℕ, List, Option, Some, None}
use Rattle.refusals.specs.declared.refusal.Refusal.{Refusal}
use Rattle.principals.specs.Users.{Caller}
use Rattle.namespace_rows.specs.declared.file_row.FileRow.{FileRow}
use Rattle.namespace_rows.specs.declared.row.Row.{Row}
use Rattle.namespace_rows.specs.Rows.{row_at}
use Rattle.required_rights.specs.RequiredRights.{Demand}
use Rattle.flat_rows.specs.Decision.{denial_among}
use Rattle.flat_rows.specs.Outcome.{first_some, refusal_of_missing, refusals_of_file}
use Rattle.inode_tree.specs.Tree.{IsTree}
use Rattle.perm_walk.specs.declared.target.Target.{Target}
use Rattle.perm_walk.specs.declared.target.Target.TheVariants as any
use Rattle.perm_walk.specs.declared.target.TargetFile.{TargetFile}
use Rattle.perm_walk.specs.declared.target.TargetFile.TheVariants as file
use Rattle.perm_walk.specs.Found.{IsThere}

-- no need fails, and this is why nothing has the path, or no file
pub record IsRefused (rows : List Row) (caller : Caller) (needs : List Demand) (why : Option Refusal) (refusal : Refusal) : Type 0 where
  pub granted : denial_among rows caller needs ≡ None
  pub refused : why ≡ Some refusal

-- no need fails, and this has the path
pub record IsGrantedRow (path : List (List ℕ)) (rows : List Row) (caller : Caller) (needs : List Demand) (row : Row) : Type 0 where
  pub granted : denial_among rows caller needs ≡ None
  pub there : IsThere path rows row
  pub tree : IsTree rows

abbrev pub IsTarget : List (List ℕ) → List Row → Caller → List Demand → Target → Type 0
IsTarget path rows caller needs (any.Denied denial) = denial_among rows caller needs ≡ Some denial
IsTarget path rows caller needs (any.Refused refusal) = IsRefused rows caller needs (refusal_of_missing path rows) refusal
IsTarget path rows caller needs (any.There row) = IsGrantedRow path rows caller needs row

-- what a file has beside what a directory has, where a file has the path
abbrev pub file_at_row : Option Row → Option FileRow
file_at_row None = None
file_at_row (Some row) = row.file

pub record IsFileThere (path : List (List ℕ)) (rows : List Row) (file : FileRow) : Type 0 where
  pub at : file_at_row (row_at path rows) ≡ Some file
  pub free : first_some (refusals_of_file path rows) ≡ None

-- no need fails, and this file has the path
pub record IsGrantedFile (path : List (List ℕ)) (rows : List Row) (caller : Caller) (needs : List Demand) (file : FileRow) : Type 0 where
  pub granted : denial_among rows caller needs ≡ None
  pub there : IsFileThere path rows file

abbrev pub IsTargetFile : List (List ℕ) → List Row → Caller → List Demand → TargetFile → Type 0
IsTargetFile path rows caller needs (file.Denied denial) = denial_among rows caller needs ≡ Some denial
IsTargetFile path rows caller needs (file.Refused refusal) = IsRefused rows caller needs (first_some (refusals_of_file path rows)) refusal
IsTargetFile path rows caller needs (file.There found) = IsGrantedFile path rows caller needs found.now
