-- Laws of permissions: what the rules are for, in words of their own. Each holds of every attempt, those about rights, the sticky bit and closed directories while permission checking is on. They follow from the rules, so a
-- slip in the rules that breaks one is refused, also where code and rule have it together.
-- (HDFS Permissions Guide, "Overview", "Permission Checks", "The Sticky Bit" and "The Super-User"; HDFS Architecture, the
-- single-writer model.)
use Rattle.std.specs.Prelude.{◌≡◌, ◌≢◌, ℕ, Bool, true, false, ◌||◌, List, ◌++◌, Option, Some, None}
use Rattle.std.specs.Option.{is_some}
use Rattle.node_ids.specs.NodeId.{node_of}
use Rattle.hdfs_values.specs.Text.{same}
use Rattle.hdfs_values.specs.Groups.{has_group}
use Rattle.file_paths.specs.Path.{is_prefix, is_beneath}
use Rattle.hdfs_types.specs.Request.{is_for_nodes}
use Rattle.hdfs_types.specs.declared.op.Op.TheVariants as op
use Rattle.principals.specs.Users.{Users, groups_of, is_super}
use Rattle.namespace_rows.specs.declared.row.Row.{Row}
use Rattle.namespace_rows.specs.Rows.{is_directory}
use Rattle.namespace_rows.specs.Namespace.{IsNamespace}
use Rattle.flat_rows.specs.declared.verdict.Verdict.TheVariants.{Denied}
use Rattle.flat_rows.specs.Denial.{Denial}
use Rattle.flat_rows.specs.FileOutcome.{holder_at}
use Rattle.flat_rows.specs.Verdicts.{is_done, is_denied}
use Rattle.permission_laws.specs.Attempt.{Attempt, IsRightAbove, IsLastAbove, attempt_step, IsDone, IsChecked, row_before, row_after, by_superuser, may, owns, is_impassable, is_named, is_above_named, is_above_another, taken_path, managed_path, made_path, altered_path, is_about_users, is_about_files, is_about_lists, is_about_owners, administers, written_path, concerns}

-- ---- superusers

-- but for what is for DataNodes alone
abbrev pub SuperusersAreNeverDenied : Type 0
SuperusersAreNeverDenied = (attempt : Attempt) → by_superuser attempt ≡ true → is_for_nodes attempt.op ≡ false → is_denied (attempt_step attempt).verdict ≡ false

-- the user that the namesystem opens with and the members of the supergroup are superusers
abbrev pub SuperusersByNameOrGroup : Type 0
SuperusersByNameOrGroup = (users : Users) (user : List ℕ) → (same user users.superuser || has_group (groups_of users user) users.supergroup) ≡ true → is_super users user ≡ true

-- nobody else is a superuser
abbrev pub OthersAreNoSuperusers : Type 0
OthersAreNoSuperusers = (users : Users) (user : List ℕ) → user ≢ users.superuser → has_group (groups_of users user) users.supergroup ≡ false → is_super users user ≡ false

-- only superusers make users known, give them groups, make keys and have leases expire
abbrev pub OthersDoNotAdminister : Type 0
OthersDoNotAdminister = (attempt : Attempt) → IsNamespace attempt.rows → IsDone attempt → administers attempt.op ≡ true → by_superuser attempt ≡ true

-- only DataNodes do what is for them, and no superuser in their place
abbrev pub OthersAreNoNodes : Type 0
OthersAreNoNodes = (attempt : Attempt) → IsNamespace attempt.rows → IsDone attempt → is_for_nodes attempt.op ≡ true → is_some (node_of attempt.caller) ≡ true

-- users and their groups change by what is about them alone
abbrev pub UsersStay : Type 0
UsersStay = (attempt : Attempt) → is_about_users attempt.op ≡ false → (attempt_step attempt).users ≡ attempt.users

-- ---- directories that the caller can't traverse

-- denied at a closed directory above a path of the operation, and nothing has changed
pub record IsTurnedBack (attempt : Attempt) (path : List (List ℕ)) (closed : Row) : Type 0 where
  pub denial : Denial
  pub verdict : (attempt_step attempt).verdict ≡ Denied denial
  pub stands : row_before attempt denial.row.path ≡ Some denial.row
  pub shut : is_impassable attempt denial.row ≡ true
  pub above : is_above_named denial.row.path attempt.op ≡ true
  -- at or above the closed directory that is asked about, or above the other path of a rename
  pub on_the_way : (is_prefix denial.row.path closed.path || is_above_another denial.row.path path attempt.op) ≡ true
  pub rows : (attempt_step attempt).rows ≡ attempt.rows
  pub users : (attempt_step attempt).users ≡ attempt.users

-- what is beneath a directory that the caller can't traverse is out of reach
abbrev pub ClosedDirectoriesTurnBack : Type 0
ClosedDirectoriesTurnBack = (attempt : Attempt) (path : List (List ℕ)) (directory : Row)
    → IsNamespace attempt.rows → IsChecked attempt → is_named path attempt.op ≡ true → is_beneath path directory.path ≡ true
    → row_before attempt directory.path ≡ Some directory → is_impassable attempt directory ≡ true → IsTurnedBack attempt path directory

-- no denial tells of anything beneath such a directory
abbrev pub DenialsAreWithinReach : Type 0
DenialsAreWithinReach = (attempt : Attempt) (denial : Denial) (directory : Row)
    → IsNamespace attempt.rows → (attempt_step attempt).verdict ≡ Denied denial → is_beneath denial.row.path directory.path ≡ true
    → row_before attempt directory.path ≡ Some directory → is_impassable attempt directory ≡ false

-- ---- the sticky bit

-- from a directory with the sticky bit only the owner of what is taken, the owner of the directory and superusers take something away
abbrev pub StickyDirectoriesKeepWhatTheyHold : Type 0
StickyDirectoriesKeepWhatTheyHold = (attempt : Attempt) (path : List (List ℕ)) (row directory : Row)
    → IsDone attempt → IsChecked attempt → taken_path attempt.op ≡ Some path → row_before attempt path ≡ Some row
    → IsRightAbove attempt directory path → directory.acl.sticky ≡ true
    → (by_superuser attempt || (owns attempt row || owns attempt directory)) ≡ true

-- ---- owners

-- only the owner and superusers change a mode, an access list, an owner or a group
abbrev pub OthersManageNothing : Type 0
OthersManageNothing = (attempt : Attempt) (path : List (List ℕ)) (row : Row)
    → IsDone attempt → managed_path attempt.op ≡ Some path → row_before attempt path ≡ Some row → (by_superuser attempt || owns attempt row) ≡ true

-- only superusers give a path to another owner
abbrev pub OwnersGiveNothingAway : Type 0
OwnersGiveNothingAway = (attempt : Attempt) (path : List (List ℕ)) (user : List ℕ) (group : Option (List ℕ)) (row : Row)
    → IsDone attempt → attempt.op ≡ op.SetOwner path (Some user) group → row_before attempt path ≡ Some row → same user row.owner ≡ false → by_superuser attempt ≡ true

-- others give a path only to a group that they are in
abbrev pub GroupsAreTheGivers : Type 0
GroupsAreTheGivers = (attempt : Attempt) (path : List (List ℕ)) (owner : Option (List ℕ)) (group : List ℕ) (row : Row)
    → IsDone attempt → attempt.op ≡ op.SetOwner path owner (Some group) → row_before attempt path ≡ Some row
    → (by_superuser attempt || has_group (groups_of attempt.users attempt.caller) group) ≡ true

-- ---- deletions

-- the caller may write the directory that holds the path
abbrev pub DeletionsWriteTheDirectory : Type 0
DeletionsWriteTheDirectory = (attempt : Attempt) (path : List (List ℕ)) (directory : Row)
    → IsDone attempt → IsChecked attempt → taken_path attempt.op ≡ Some path → IsRightAbove attempt directory path → may 2 attempt directory ≡ true

-- and may read, write and traverse each directory that goes
abbrev pub DeletionsHaveAllRights : Type 0
DeletionsHaveAllRights = (attempt : Attempt) (path : List (List ℕ)) (recursive : Bool) (directory : Row)
    → IsDone attempt → IsChecked attempt → attempt.op ≡ op.Delete path recursive → row_before attempt directory.path ≡ Some directory → is_directory directory ≡ true
    → is_prefix path directory.path ≡ true → may 7 attempt directory ≡ true

-- ---- what is made, read and altered

-- who makes something, or moves it there, may write the last component above it that was there
abbrev pub MakersWriteTheDirectory : Type 0
MakersWriteTheDirectory = (attempt : Attempt) (path : List (List ℕ)) (above : Row)
    → IsNamespace attempt.rows → IsChecked attempt → IsDone attempt → made_path attempt.op ≡ Some path → row_before attempt path ≡ None → IsLastAbove attempt above path → may 2 attempt above ≡ true

-- who opens a file may read it
abbrev pub OpenersMayRead : Type 0
OpenersMayRead = (attempt : Attempt) (path : List (List ℕ)) (file : Row)
    → IsDone attempt → IsChecked attempt → attempt.op ≡ op.Open path → row_before attempt path ≡ Some file → may 4 attempt file ≡ true

-- who appends to a file, gives it another replication or replaces it may write it
abbrev pub AlterersMayWrite : Type 0
AlterersMayWrite = (attempt : Attempt) (path : List (List ℕ)) (file : Row)
    → IsDone attempt → IsChecked attempt → altered_path attempt.op ≡ Some path → row_before attempt path ≡ Some file → is_directory file ≡ false → may 2 attempt file ≡ true

-- who lists a directory may read and traverse it
abbrev pub ListersMayLook : Type 0
ListersMayLook = (attempt : Attempt) (path : List (List ℕ)) (directory : Row)
    → IsDone attempt → IsChecked attempt → attempt.op ≡ op.List path → row_before attempt path ≡ Some directory → is_directory directory ≡ true → may 5 attempt directory ≡ true

-- and who counts what is beneath one, also each directory beneath it
abbrev pub CountersMayLook : Type 0
CountersMayLook = (attempt : Attempt) (path : List (List ℕ)) (directory : Row)
    → IsDone attempt → IsChecked attempt → attempt.op ≡ op.Summary path → row_before attempt directory.path ≡ Some directory → is_directory directory ≡ true
    → is_prefix path directory.path ≡ true → may 5 attempt directory ≡ true

-- ---- writers

-- only the client who has a file open goes on with it or completes it
abbrev pub OnlyWritersWrite : Type 0
OnlyWritersWrite = (attempt : Attempt) (path : List (List ℕ))
    → IsNamespace attempt.rows → IsDone attempt → written_path attempt.op ≡ Some path → holder_at (row_before attempt path) ≡ Some attempt.caller

-- ---- what isn't done

abbrev pub DenialsAndRefusalsChangeNothing : Type 0
DenialsAndRefusalsChangeNothing = (attempt : Attempt) → is_done (attempt_step attempt).verdict ≡ false → ((attempt_step attempt).rows ≡ attempt.rows) × ((attempt_step attempt).users ≡ attempt.users)

-- ---- what is elsewhere

-- what stands where the operation has no matter stays as it is
abbrev pub OtherRowsStay : Type 0
OtherRowsStay = (attempt : Attempt) (path : List (List ℕ)) (row : Row)
    → IsNamespace attempt.rows → concerns attempt.op path ≡ false → row_before attempt path ≡ Some row → row_after attempt path ≡ Some row

-- and nothing appears there, but the directories above a path that is made
abbrev pub NothingElseAppears : Type 0
NothingElseAppears = (attempt : Attempt) (path : List (List ℕ))
    → IsNamespace attempt.rows → concerns attempt.op path ≡ false → is_above_named path attempt.op ≡ false → row_before attempt path ≡ None → row_after attempt path ≡ None

-- ---- what is deleted and renamed

-- what is deleted is gone, with all that is beneath it
abbrev pub DeletionsTakeAll : Type 0
DeletionsTakeAll = (attempt : Attempt) (path : List (List ℕ)) (recursive : Bool) (other : List (List ℕ))
    → IsDone attempt → attempt.op ≡ op.Delete path recursive → is_prefix path other ≡ true → row_after attempt other ≡ None

-- what is renamed, and all that is beneath it, has its new path, and is as it was otherwise
abbrev pub RenamesMoveAll : Type 0
RenamesMoveAll = (attempt : Attempt) (from to names : List (List ℕ)) (row : Row)
    → IsDone attempt → attempt.op ≡ op.Rename from to → row_before attempt (from ++ names) ≡ Some row → row_after attempt (to ++ names) ≡ Some (record row { path = to ++ names })

-- and nothing stays behind
abbrev pub RenamesLeaveNothing : Type 0
RenamesLeaveNothing = (attempt : Attempt) (from to other : List (List ℕ))
    → IsDone attempt → attempt.op ≡ op.Rename from to → is_prefix from other ≡ true → is_prefix to other ≡ false → row_after attempt other ≡ None

-- ---- what is changed of a row

-- a change of files' own parts leaves path, kind, owner, group and list
abbrev pub FilesChangeAlone : Type 0
FilesChangeAlone = (attempt : Attempt) (path : List (List ℕ)) (row later : Row)
    → is_about_files attempt.op ≡ true → row_before attempt path ≡ Some row → row_after attempt path ≡ Some later → record later { file = row.file } ≡ row

-- a change of a mode or a list leaves all but the list
abbrev pub ListsChangeAlone : Type 0
ListsChangeAlone = (attempt : Attempt) (path : List (List ℕ)) (row later : Row)
    → is_about_lists attempt.op ≡ true → row_before attempt path ≡ Some row → row_after attempt path ≡ Some later → record later { acl = row.acl } ≡ row

-- and a change of an owner or a group leaves all but these
abbrev pub OwnersChangeAlone : Type 0
OwnersChangeAlone = (attempt : Attempt) (path : List (List ℕ)) (row later : Row)
    → is_about_owners attempt.op ≡ true → row_before attempt path ≡ Some row → row_after attempt path ≡ Some later → record later { owner = row.owner; group = row.group } ≡ row

-- nothing comes or goes by any of them
abbrev pub NothingComesOrGoes : Type 0
NothingComesOrGoes = (attempt : Attempt) (path : List (List ℕ))
    → (is_about_files attempt.op || (is_about_lists attempt.op || is_about_owners attempt.op)) ≡ true → is_some (row_after attempt path) ≡ is_some (row_before attempt path)
