-- Laws of the decision, exactly: who reaches the path of an operation is let past all needs where he has these rights, and else denied. `permission_laws` says of what is done
-- that nobody does without; these say it of what is refused later, too, and that no more is asked, where it is about rights and the sticky bit while permission checking is on. Who can't reach a path is turned back there (`permission_laws`).
-- (HDFS Permissions Guide, "Permission Checks", "The Sticky Bit" and "The Super-User".)
use Rattle.std.specs.Prelude.{◌≡◌, ℕ, Bool, true, false, ◌||◌, List, Option, Some, None}
use Rattle.std.specs.Option.{is_some}
use Rattle.node_ids.specs.NodeId.{node_of}
use Rattle.hdfs_values.specs.Text.{same}
use Rattle.hdfs_values.specs.Groups.{has_group}
use Rattle.file_paths.specs.Path.{is_prefix, is_beneath}
use Rattle.hdfs_types.specs.declared.op.Op.{Op}
use Rattle.hdfs_types.specs.declared.op.Op.TheVariants as op
use Rattle.principals.specs.Users.{groups_of}
use Rattle.namespace_rows.specs.declared.row.Row.{Row}
use Rattle.namespace_rows.specs.Namespace.{IsNamespace}
use Rattle.namespace_rows.specs.Rows.{is_directory, ancestor, directory_of}
use Rattle.flat_rows.specs.Verdicts.{is_denied}
use Rattle.permission_laws.specs.Attempt.{Attempt, IsChecked, attempt_step, row_before, by_superuser, may, owns, administers}

-- one holds where the other does
abbrev pub Exactly : Type 0 → Type 0 → Type 0
Exactly one other = (one → other) × (other → one)

-- no need fails: what comes of it may be a refusal
abbrev pub IsLetIn : Attempt → Type 0
IsLetIn attempt = is_denied (attempt_step attempt).verdict ≡ false

-- ---- what the caller may; a superuser may all of it

-- each directory above the path lets him through
abbrev pub Reaches : Attempt → List (List ℕ) → Type 0
Reaches attempt path = (directory : Row) → row_before attempt directory.path ≡ Some directory → is_directory directory ≡ true → is_beneath path directory.path ≡ true → may 1 attempt directory ≡ true

-- these rights on what stands at the path, where something does
abbrev pub MayAt : ℕ → Attempt → List (List ℕ) → Type 0
MayAt asked attempt path = (row : Row) → row_before attempt path ≡ Some row → may asked attempt row ≡ true

-- on the directory at the path, where one stands there, and on each directory beneath it
abbrev pub MayBeneath : ℕ → Attempt → List (List ℕ) → Type 0
MayBeneath asked attempt path =
    (directory : Row) → row_before attempt directory.path ≡ Some directory → is_directory directory ≡ true → is_prefix path directory.path ≡ true → may asked attempt directory ≡ true

-- on the directory that holds the path
abbrev pub MayInDirectoryOf : ℕ → Attempt → List (List ℕ) → Type 0
MayInDirectoryOf asked attempt path = (directory : Row) → directory_of path attempt.rows ≡ Some directory → may asked attempt directory ≡ true

-- on the last component above the path that stands
abbrev pub MayInLastAbove : ℕ → Attempt → List (List ℕ) → Type 0
MayInLastAbove asked attempt path = (above : Row) → ancestor path attempt.rows ≡ Some above → may asked attempt above ≡ true

-- what stands there is his own
abbrev pub Owns : Attempt → List (List ℕ) → Type 0
Owns attempt path = (row : Row) → row_before attempt path ≡ Some row → (by_superuser attempt || owns attempt row) ≡ true

-- where the directory that holds it has the sticky bit, what stands there or that directory is his own
abbrev pub IsNotHeldBySticky : Attempt → List (List ℕ) → Type 0
IsNotHeldBySticky attempt path = (row directory : Row) → row_before attempt path ≡ Some row → directory_of path attempt.rows ≡ Some directory → directory.acl.sticky ≡ true
    → (by_superuser attempt || (owns attempt row || owns attempt directory)) ≡ true

-- ---- operations on a path that is reached

-- these ask for no right but those on the way: of what stands there and its access list, and to go on with a file and to complete it
abbrev pub looked_at : Op → Option (List (List ℕ))
looked_at (op.Stat path) = Some path
looked_at (op.GetAcl path) = Some path
looked_at (op.AddBlock path last) = Some path
looked_at (op.Complete path last) = Some path
looked_at _ = None

abbrev pub TheWayIsEnough : Type 0
TheWayIsEnough = (attempt : Attempt) (path : List (List ℕ)) → IsNamespace attempt.rows → IsChecked attempt → looked_at attempt.op ≡ Some path → Reaches attempt path → IsLetIn attempt

abbrev pub OpenNeedsRead : Type 0
OpenNeedsRead = (attempt : Attempt) (path : List (List ℕ)) → IsNamespace attempt.rows → IsChecked attempt → attempt.op ≡ op.Open path → Reaches attempt path → Exactly (MayAt 4 attempt path) (IsLetIn attempt)

abbrev pub AppendNeedsWrite : Type 0
AppendNeedsWrite = (attempt : Attempt) (path : List (List ℕ)) → IsNamespace attempt.rows → IsChecked attempt → attempt.op ≡ op.Append path → Reaches attempt path → Exactly (MayAt 2 attempt path) (IsLetIn attempt)

abbrev pub ReplicationNeedsWrite : Type 0
ReplicationNeedsWrite = (attempt : Attempt) (path : List (List ℕ)) (replication : ℕ) → IsNamespace attempt.rows → IsChecked attempt → attempt.op ≡ op.SetReplication path replication → Reaches attempt path
    → Exactly (MayAt 2 attempt path) (IsLetIn attempt)

-- and of a file nothing
abbrev pub ListNeedsReadAndTraverse : Type 0
ListNeedsReadAndTraverse = (attempt : Attempt) (path : List (List ℕ)) → IsNamespace attempt.rows → IsChecked attempt → attempt.op ≡ op.List path → Reaches attempt path
    → Exactly ((directory : Row) → row_before attempt path ≡ Some directory → is_directory directory ≡ true → may 5 attempt directory ≡ true) (IsLetIn attempt)

abbrev pub SummaryNeedsAllBeneath : Type 0
SummaryNeedsAllBeneath = (attempt : Attempt) (path : List (List ℕ)) → IsNamespace attempt.rows → IsChecked attempt → attempt.op ≡ op.Summary path → Reaches attempt path → Exactly (MayBeneath 5 attempt path) (IsLetIn attempt)

-- and where something stands nothing
abbrev pub MkdirsNeedsWriteAbove : Type 0
MkdirsNeedsWriteAbove = (attempt : Attempt) (path : List (List ℕ)) (mode : ℕ) → IsNamespace attempt.rows → IsChecked attempt → attempt.op ≡ op.Mkdirs path mode → Reaches attempt path
    → Exactly (row_before attempt path ≡ None → MayInLastAbove 2 attempt path) (IsLetIn attempt)

-- also where something stands
abbrev pub CreateNeedsWriteAbove : Type 0
CreateNeedsWriteAbove = (attempt : Attempt) (path : List (List ℕ)) (mode replication : ℕ) (over : Bool) → IsNamespace attempt.rows → IsChecked attempt → attempt.op ≡ op.Create path mode replication over → Reaches attempt path
    → Exactly (MayInLastAbove 2 attempt path × (over ≡ true → (file : Row) → row_before attempt path ≡ Some file → is_directory file ≡ false → may 2 attempt file ≡ true)) (IsLetIn attempt)

-- whether it is recursive or not
abbrev pub DeleteNeedsAllBeneath : Type 0
DeleteNeedsAllBeneath = (attempt : Attempt) (path : List (List ℕ)) (recursive : Bool) → IsNamespace attempt.rows → IsChecked attempt → attempt.op ≡ op.Delete path recursive → Reaches attempt path
    → Exactly (IsNotHeldBySticky attempt path × MayInDirectoryOf 2 attempt path × MayBeneath 7 attempt path) (IsLetIn attempt)

-- and no right on what moves
abbrev pub RenameNeedsBothDirectories : Type 0
RenameNeedsBothDirectories = (attempt : Attempt) (from to : List (List ℕ)) → IsNamespace attempt.rows → IsChecked attempt → attempt.op ≡ op.Rename from to → Reaches attempt from → Reaches attempt to
    → Exactly (IsNotHeldBySticky attempt from × MayInLastAbove 2 attempt to × MayInDirectoryOf 2 attempt from) (IsLetIn attempt)

abbrev pub has_list_or_mode_set : Op → Option (List (List ℕ))
has_list_or_mode_set (op.SetMode path mode) = Some path
has_list_or_mode_set (op.SetAcl path change) = Some path
has_list_or_mode_set _ = None

abbrev pub ListsAndModesNeedTheOwner : Type 0
ListsAndModesNeedTheOwner = (attempt : Attempt) (path : List (List ℕ)) → IsNamespace attempt.rows → has_list_or_mode_set attempt.op ≡ Some path → Reaches attempt path → Exactly (Owns attempt path) (IsLetIn attempt)

-- the user who is named owns it already, or the caller is a superuser
abbrev pub KeepsItsOwner : Attempt → List (List ℕ) → Option (List ℕ) → Type 0
KeepsItsOwner attempt path owner = (user : List ℕ) (row : Row) → owner ≡ Some user → row_before attempt path ≡ Some row → (by_superuser attempt || same user row.owner) ≡ true

-- he is in the group that is named, where something stands
abbrev pub IsInGroup : Attempt → List (List ℕ) → Option (List ℕ) → Type 0
IsInGroup attempt path group =
    (name : List ℕ) (row : Row) → group ≡ Some name → row_before attempt path ≡ Some row → (by_superuser attempt || has_group (groups_of attempt.users attempt.caller) name) ≡ true

abbrev pub ChownNeedsTheOwnerAndTheGroup : Type 0
ChownNeedsTheOwnerAndTheGroup = (attempt : Attempt) (path : List (List ℕ)) (owner group : Option (List ℕ)) → IsNamespace attempt.rows → attempt.op ≡ op.SetOwner path owner group → Reaches attempt path
    → Exactly (Owns attempt path × KeepsItsOwner attempt path owner × IsInGroup attempt path group) (IsLetIn attempt)

-- ---- what has no path

abbrev pub RenewNeedsNothing : Type 0
RenewNeedsNothing = (attempt : Attempt) → attempt.op ≡ op.Renew → IsLetIn attempt

abbrev pub AdministrationNeedsASuperuser : Type 0
AdministrationNeedsASuperuser = (attempt : Attempt) → IsNamespace attempt.rows → administers attempt.op ≡ true → Exactly (by_superuser attempt ≡ true) (IsLetIn attempt)

-- what a DataNode alone tells the NameNode
abbrev pub is_told_by_nodes : Op → Bool
is_told_by_nodes op.Heartbeat = true
is_told_by_nodes (op.Reported replica) = true
is_told_by_nodes (op.CommitRecovery recovered) = true
is_told_by_nodes _ = false

-- whatever the caller's rank
abbrev pub NodesNeedTheirName : Type 0
NodesNeedTheirName = (attempt : Attempt) → IsNamespace attempt.rows → is_told_by_nodes attempt.op ≡ true → Exactly (is_some (node_of attempt.caller) ≡ true) (IsLetIn attempt)
