-- An attempt: a caller asks for an operation on a namespace. What comes of it, what stood at a path before and stands there after,
-- and what the caller may do to what stands there.
use Rattle.std.specs.Prelude.{◌≡◌, ℕ, Bool, true, false, ◌&&◌, ◌||◌, not, List, [], ◌∷◌, Option, Some, None}
use Rattle.std.specs.List.{list_any}
use Rattle.hdfs_values.specs.Text.{same}
use Rattle.permission_bits.specs.Rights.{rights}
use Rattle.file_paths.specs.Path.{is_prefix, is_beneath}
use Rattle.file_paths.specs.PathOrder.{same_path}
use Rattle.hdfs_types.specs.declared.op.Op.{Op}
use Rattle.hdfs_types.specs.declared.op.Op.TheVariants as op
use Rattle.principals.specs.Users.{Users, groups_of, is_super}
use Rattle.namespace_rows.specs.declared.row.Row.{Row}
use Rattle.namespace_rows.specs.Judgement.{judgement}
use Rattle.namespace_rows.specs.Namespace.{is_child}
use Rattle.namespace_rows.specs.Rows.{is_directory, row_at}
use Rattle.flat_rows.specs.Facts.{Facts}
use Rattle.flat_rows.specs.Outcome.{Step, step}
use Rattle.flat_rows.specs.Verdicts.{is_done}

-- a caller asks for an operation, where the namespace, the users, the leases and the keys are these
pub record Attempt : Type 0 where
  pub facts : Facts
  pub rows : List Row
  pub users : Users
  pub caller : List ℕ
  pub op : Op

-- ---- what comes of it

abbrev pub attempt_step : Attempt → Step
attempt_step attempt = step attempt.facts attempt.rows attempt.users attempt.caller attempt.op

abbrev pub IsDone : Attempt → Type 0
IsDone attempt = is_done (attempt_step attempt).verdict ≡ true

-- what stands at a path before the attempt, and what after it
abbrev pub row_before : Attempt → List (List ℕ) → Option Row
row_before attempt path = row_at path attempt.rows

abbrev pub row_after : Attempt → List (List ℕ) → Option Row
row_after attempt path = row_at path (attempt_step attempt).rows

-- the directory that stands right above a path
pub record IsRightAbove (attempt : Attempt) (directory : Row) (path : List (List ℕ)) : Type 0 where
  pub stands : row_before attempt directory.path ≡ Some directory
  pub kind : is_directory directory ≡ true
  pub child : is_child path directory.path ≡ true

-- the last component above a path that stands
pub record IsLastAbove (attempt : Attempt) (above : Row) (path : List (List ℕ)) : Type 0 where
  pub stands : row_before attempt above.path ≡ Some above
  pub above_path : is_beneath path above.path ≡ true
  pub last : (other : Row) → row_before attempt other.path ≡ Some other → is_beneath path other.path ≡ true → is_prefix other.path above.path ≡ true

-- permission checking is on
abbrev pub IsChecked : Attempt → Type 0
IsChecked attempt = attempt.users.checking ≡ true

-- ---- what the caller may do

abbrev pub by_superuser : Attempt → Bool
by_superuser attempt = is_super attempt.users attempt.caller

-- the caller has these rights on what stands there: 4 to read, 2 to write, 1 to traverse
abbrev pub may : ℕ → Attempt → Row → Bool
may asked attempt row = by_superuser attempt || (judgement row attempt.caller (groups_of attempt.users attempt.caller) (rights asked)).granted

abbrev pub owns : Attempt → Row → Bool
owns attempt row = same attempt.caller row.owner

-- a directory that the caller can't traverse
abbrev pub is_impassable : Attempt → Row → Bool
is_impassable attempt row = is_directory row && not (may 1 attempt row)

-- ---- what it is about

-- the paths that an operation names
abbrev pub paths_of : Op → List (List (List ℕ))
paths_of (op.Mkdirs path mode) = path ∷ []
paths_of (op.Stat path) = path ∷ []
paths_of (op.List path) = path ∷ []
paths_of (op.Summary path) = path ∷ []
paths_of (op.GetAcl path) = path ∷ []
paths_of (op.Delete path recursive) = path ∷ []
paths_of (op.Rename from to) = from ∷ to ∷ []
paths_of (op.SetMode path mode) = path ∷ []
paths_of (op.SetOwner path owner group) = path ∷ []
paths_of (op.SetAcl path change) = path ∷ []
paths_of (op.Create path mode replication over) = path ∷ []
paths_of (op.Append path) = path ∷ []
paths_of (op.AddBlock path last) = path ∷ []
paths_of (op.Complete path last) = path ∷ []
paths_of (op.Open path) = path ∷ []
paths_of (op.SetReplication path replication) = path ∷ []
paths_of _ = []

abbrev pub is_named : List (List ℕ) → Op → Bool
is_named path op = list_any (same_path path) (paths_of op)

-- the path is above one that is named
abbrev pub is_above_named : List (List ℕ) → Op → Bool
is_above_named path op = list_any (λ named. is_beneath named path) (paths_of op)

-- and above another than this one
abbrev pub is_above_another : List (List ℕ) → List (List ℕ) → Op → Bool
is_above_another above path op = list_any (λ named. not (same_path named path) && is_beneath named above) (paths_of op)

-- the path that an operation takes away from where it stands, with all that is beneath it
abbrev pub taken_path : Op → Option (List (List ℕ))
taken_path (op.Delete path recursive) = Some path
taken_path (op.Rename from to) = Some from
taken_path _ = None

-- the path whose mode, access list, owner or group an operation changes
abbrev pub managed_path : Op → Option (List (List ℕ))
managed_path (op.SetMode path mode) = Some path
managed_path (op.SetOwner path owner group) = Some path
managed_path (op.SetAcl path change) = Some path
managed_path _ = None

-- the path at which an operation makes something, or to which it moves it
abbrev pub made_path : Op → Option (List (List ℕ))
made_path (op.Mkdirs path mode) = Some path
made_path (op.Create path mode replication over) = Some path
made_path (op.Rename from to) = Some to
made_path _ = None

-- the file whose content, replication or writer an operation changes, also one that it replaces
abbrev pub altered_path : Op → Option (List (List ℕ))
altered_path (op.Append path) = Some path
altered_path (op.SetReplication path replication) = Some path
altered_path (op.Create path mode replication true) = Some path
altered_path _ = None

-- an operation on what stands is about files' own parts: their replication, their blocks and who writes them
abbrev pub is_about_files : Op → Bool
is_about_files (op.Append path) = true
is_about_files (op.AddBlock path last) = true
is_about_files (op.Complete path last) = true
is_about_files (op.SetReplication path replication) = true
is_about_files op.Tick = true
is_about_files (op.CommitRecovery recovered) = true
is_about_files _ = false

-- or about access lists
abbrev pub is_about_lists : Op → Bool
is_about_lists (op.SetMode path mode) = true
is_about_lists (op.SetAcl path change) = true
is_about_lists _ = false

-- or about owners and groups
abbrev pub is_about_owners : Op → Bool
is_about_owners (op.SetOwner path owner group) = true
is_about_owners _ = false

-- or about users, their groups, and whether they are checked
abbrev pub is_about_users : Op → Bool
is_about_users (op.AddUser user groups) = true
is_about_users (op.SetGroups user groups) = true
is_about_users (op.SetChecking on) = true
is_about_users _ = false

-- an operation that is about the NameNode as a whole
abbrev pub administers : Op → Bool
administers (op.AddUser user groups) = true
administers (op.SetGroups user groups) = true
administers (op.SetChecking on) = true
administers (op.RollKey key) = true
administers op.Tick = true
administers _ = false

-- the file that a writer goes on with or ends
abbrev pub written_path : Op → Option (List (List ℕ))
written_path (op.AddBlock path last) = Some path
written_path (op.Complete path last) = Some path
written_path _ = None

-- what stands at a path is an operation's own matter: the path is named, or beneath one that something is taken from or moved to. A
-- tick is about all files, and the end of a recovery names a block, which any may have.
abbrev pub concerns : Op → List (List ℕ) → Bool
concerns (op.Delete top recursive) path = is_prefix top path
concerns (op.Rename from to) path = is_prefix from path || is_prefix to path
concerns op.Tick path = true
concerns (op.CommitRecovery recovered) path = true
concerns op path = is_named path op
