-- How far a path leads, and where a descent along it ends.
use Rattle.std.specs.Prelude.{◌≡◌, if◌then◌else◌, ℕ, List, length, Option, Some, None, IfSome}
use Rattle.permission_bits.specs.declared.rights.Rights.{Rights}
use Rattle.principals.specs.Users.{Caller}
use Rattle.namespace_rows.specs.declared.row.Row.{Row}
use Rattle.namespace_rows.specs.Changes.{rows_under}
use Rattle.namespace_rows.specs.Rows.{is_directory, row_at, directory_of, ancestor, file_above, directories_above}
use Rattle.inode_tree.specs.Tree.{IsTree, has_files}
use Rattle.inode_visits.specs.Visits.{told_number}
use Rattle.inode_visits.specs.declared.visit.Counted.{Counted}
use Rattle.perm_walk.specs.declared.reach.Reach.{Reach}
use Rattle.perm_walk.specs.declared.reach.Entered.{Entered}
use Rattle.perm_walk.specs.declared.reach.Entered.TheVariants.{Closed, Reached}
use Rattle.perm_walk.specs.Closed.{first_shut}

-- a component that is a file
abbrev pub if_file : Row → Option Row
if_file row = if is_directory row then None else Some row

-- what stands at the path and beneath it is counted so
pub record IsCounted (path : List (List ℕ)) (rows : List Row) (counted : Counted) : Type 0 where
  pub number : counted.number ≡ told_number (length (rows_under path rows))
  pub files : counted.has_files ≡ has_files (rows_under path rows)

-- what stands on the path is what the rows of a tree have there
pub record IsReach (path : List (List ℕ)) (rows : List Row) (reach : Reach) : Type 0 where
  pub at : reach.at ≡ row_at path rows
  pub parent : reach.parent ≡ directory_of path rows
  pub ancestor : reach.ancestor ≡ ancestor path rows
  pub file : reach.file ≡ file_above path rows
  pub tree : IsTree rows
  pub counted : IfSome reach.counted (IsCounted path rows)

-- no directory above the path is shut, and it leads there
pub record IsOpen (asked : Option Rights) (caller : Caller) (path : List (List ℕ)) (rows : List Row) (reach : Reach) : Type 0 where
  pub granted : first_shut asked caller (directories_above path rows) ≡ None
  pub leads : IsReach path rows reach

-- the first directory above the path that is shut, or how far the path leads
abbrev pub IsEntered : Option Rights → Caller → List (List ℕ) → List Row → Entered → Type 0
IsEntered asked caller path rows (Closed component) = first_shut asked caller (directories_above path rows) ≡ Some component
IsEntered asked caller path rows (Reached reach) = IsOpen asked caller path rows reach
