-- What an operation that no need forbids answers, and the rows and users that it leaves: the first refusal of its list that
-- applies, else done. What it asks of leases, blocks and keys is handed in; which leases it renews, and which keys there are, are questions over
-- a history of answers.
-- (HDFS Architecture, "The File System Namespace"; HDFS Permissions Guide, "Overview".)
use Rattle.std.specs.Prelude.{ℕ, ◌+◌, Bool, true, false, ◌&&◌, ◌||◌, not, List, [], ◌∷◌, ◌++◌, map, filter, length, drop, if◌then◌else◌, Option, Some, None, unwrap_or, Result, Ok, Err}
use Rattle.std.specs.Option.{option_map}
use Rattle.std.specs.Result.{result_err}
use Rattle.permission_bits.specs.Mode.{for_missing_parent}
use Rattle.node_ids.specs.NodeId.{node_of}
use Rattle.file_paths.specs.Path.{is_prefix}
use Rattle.hdfs_types.specs.declared.op.Op.{Op}
use Rattle.hdfs_types.specs.declared.op.Op.TheVariants as op
use Rattle.permission_specs.specs.declared.acl_change.AclChange.{AclChange}
use Rattle.file_states.specs.declared.kind.ObjectKind.{ObjectKind}
use Rattle.file_states.specs.declared.kind.ObjectKind.TheVariants.{Directory, File}
use Rattle.file_states.specs.declared.state.FileState.TheVariants.{Closed}
use Rattle.hdfs_types.specs.declared.reply.Reply.{Reply}
use Rattle.hdfs_types.specs.declared.reply.Reply.TheVariants as reply
use Rattle.refusals.specs.declared.refusal.Refusal.{Refusal}
use Rattle.refusals.specs.declared.refusal.Refusal.TheVariants.{BadPath, NotFound, NotDirectory, Exists, NotEmpty, IsRoot, UnderItself, NoLease, Spent}
use Rattle.refusals.specs.declared.refusal.Counter.TheVariants.{Serial}
use Rattle.acl_entries.specs.Acl.{Acl, shown_mode, has_acl, entries}
use Rattle.permission_specs.specs.SpecText.{spec_text}
use Rattle.partial_acl.specs.AclChange.{acl_change, with_mode}
use Rattle.default_acl.specs.Inheritance.{inherited_acl}
use Rattle.principals.specs.Users.{Users, refusal_of_new, refusal_of_known, with_user, with_groups, with_checking}
use Rattle.namespace_rows.specs.declared.row.Row.{Row}
use Rattle.flat_rows.specs.declared.verdict.Verdict.{Verdict}
use Rattle.flat_rows.specs.declared.verdict.Verdict.TheVariants.{Done, Denied, Refused}
use Rattle.namespace_rows.specs.First.{first_answer}
use Rattle.namespace_rows.specs.Rows.{is_directory, is_none, row_at, file_above, directory_of, ancestor, with_sub_tree}
use Rattle.namespace_rows.specs.Namespace.{is_root}
use Rattle.namespace_rows.specs.declared.file_row.FileRow.{FileRow}
use Rattle.namespace_rows.specs.declared.row.Change.TheVariants as change
use Rattle.namespace_rows.specs.Changes.{rows_under, child_names, last_name, without, moved_row, with_rows_moved, row_rewritten, recovery_ended, are_paths}
use Rattle.namespace_rows.specs.Files.{new_file, has_open_file}
use Rattle.flat_rows.specs.FileOutcome.{directory_there, file_there, of_file, refused_write, detail_of_row, file_bytes, holder_at}
use Rattle.block_map.specs.BlockFacts.{refused_recovered}
use Rattle.flat_rows.specs.Facts.{Facts}
use Rattle.flat_rows.specs.NodeOutcome.{heartbeat_reply}
use Rattle.flat_rows.specs.BlockOutcome.{replication_at, refused_by, refused_unless_last, refused_new, refused_end, added_to, opened_reply, blocks_of_row, bytes_behind_at, with_block_at, ended_at}
use Rattle.flat_rows.specs.Takeover.{unfinished_at, refused_append, appended_reply, state_after_append, expired_files, begun_in, row_ticked}
use Rattle.flat_rows.specs.Denial as denied
use Rattle.flat_rows.specs.Decision.{decision}

-- what is answered, and the rows and users after it
pub record Step : Type 0 where
  pub verdict : Verdict
  pub rows : List Row
  pub users : Users

-- a file stands above the path
abbrev pub beneath_file : List (List ℕ) → List Row → Option Refusal
beneath_file path rows = option_map (λ file. NotDirectory file.path) (file_above path rows)

-- a file has the path
abbrev pub file_at : Option Row → Option Refusal
file_at None = None
file_at (Some row) = if is_directory row then None else Some Exists

-- nothing has the path
abbrev pub nothing_at : Option Row → Option Refusal
nothing_at None = Some NotFound
nothing_at (Some row) = None

-- something has the path
abbrev pub something_at : Option Row → Option Refusal
something_at None = None
something_at (Some row) = Some Exists

abbrev pub refused_where : Bool → Refusal → Option Refusal
refused_where true refusal = Some refusal
refused_where false refusal = None

-- an access control list can't be changed in this way
abbrev pub refused_change : AclChange → Option Row → Option Refusal
refused_change change None = None
refused_change change (Some row) = result_err (acl_change change row.kind row.acl)

-- all serials of keys are given away
abbrev pub refused_roll : Option ℕ → Option Refusal
refused_roll None = Some (Spent Serial)
refused_roll (Some serial) = None

abbrev pub is_alone : List Row → Bool
is_alone [] = true
is_alone (row ∷ []) = true
is_alone (row ∷ other ∷ rows) = false

-- the first of a list that applies
abbrev pub first_some : List (Option Refusal) → Option Refusal
first_some refusals = first_answer (λ refusal. refusal) refusals

abbrev pub refusal_of_missing : List (List ℕ) → List Row → Option Refusal
refusal_of_missing path rows = first_some (beneath_file path rows ∷ nothing_at (row_at path rows) ∷ [])

-- the same, and no directory may have the path
abbrev pub refusals_of_file : List (List ℕ) → List Row → List (Option Refusal)
refusals_of_file path rows = beneath_file path rows ∷ nothing_at (row_at path rows) ∷ directory_there (row_at path rows) ∷ []

-- the rows as they would stand beneath another path
abbrev pub rows_moved : List (List ℕ) → List (List ℕ) → List Row → List Row
rows_moved from to rows = map (moved_row from to) (rows_under from rows)

-- the first refusal that applies
abbrev pub first_refusal : Facts → List ℕ → Op → List Row → Users → Option Refusal
first_refusal facts caller (op.Mkdirs path mode) rows users = first_some (beneath_file path rows ∷ file_at (row_at path rows) ∷ [])
first_refusal facts caller (op.Stat path) rows users = refusal_of_missing path rows
first_refusal facts caller (op.List path) rows users = refusal_of_missing path rows
first_refusal facts caller (op.Summary path) rows users = refusal_of_missing path rows
first_refusal facts caller (op.Delete path recursive) rows users = first_some (
    refused_where (is_root path) IsRoot ∷ beneath_file path rows ∷ nothing_at (row_at path rows)
    ∷ refused_where (not recursive && not (is_alone (rows_under path rows))) NotEmpty ∷ [])
first_refusal facts caller (op.Rename from to) rows users = first_some (
    refused_where (is_root from || is_root to) IsRoot ∷ beneath_file from rows ∷ nothing_at (row_at from rows) ∷ beneath_file to rows
    ∷ refused_where (is_prefix from to) UnderItself ∷ something_at (row_at to rows) ∷ refused_where (is_none (directory_of to rows)) NotFound
    ∷ refused_where (not (are_paths (rows_moved from to rows))) BadPath ∷ [])
first_refusal facts caller (op.SetMode path mode) rows users = refusal_of_missing path rows
first_refusal facts caller (op.SetOwner path owner group) rows users = refusal_of_missing path rows
first_refusal facts caller (op.GetAcl path) rows users = refusal_of_missing path rows
first_refusal facts caller (op.SetAcl path change) rows users = first_some (beneath_file path rows ∷ nothing_at (row_at path rows) ∷ refused_change change (row_at path rows) ∷ [])
first_refusal facts caller (op.AddUser user groups) rows users = refusal_of_new users user
first_refusal facts caller (op.SetGroups user groups) rows users = refusal_of_known users user
first_refusal facts caller (op.SetChecking on) rows users = None
first_refusal facts caller (op.Create path mode replication over) rows users =
    first_some (beneath_file path rows ∷ directory_there (row_at path rows) ∷ file_there over (row_at path rows) ∷ [])
first_refusal facts caller (op.Append path) rows users = first_some (refusals_of_file path rows ++ of_file (refused_append facts caller) (row_at path rows) ∷ [])
first_refusal facts caller (op.AddBlock path last) rows users = first_some (
    refusals_of_file path rows ++ of_file (refused_write caller) (row_at path rows) ∷ of_file (refused_unless_last last) (row_at path rows) ∷ refused_new facts.blocks last facts.now ∷ [])
first_refusal facts caller (op.Complete path last) rows users = first_some (
    refusals_of_file path rows ++ of_file (refused_write caller) (row_at path rows) ∷ of_file (refused_unless_last last) (row_at path rows) ∷ refused_end facts.blocks last ∷ [])
first_refusal facts caller (op.Open path) rows users = first_some (refusals_of_file path rows)
first_refusal facts caller (op.SetReplication path replication) rows users = first_some (refusals_of_file path rows)
first_refusal facts caller (op.RollKey key) rows users = refused_roll facts.next_serial
first_refusal facts caller op.Renew rows users = refused_where (not (has_open_file caller rows)) NoLease
first_refusal facts caller op.Tick rows users = None
first_refusal facts caller op.Heartbeat rows users = None
first_refusal facts caller (op.Reported replica) rows users = None
first_refusal facts caller (op.CommitRecovery recovered) rows users = refused_by (refused_recovered facts.blocks recovered.block recovered.stamp)

-- what `stat` tells of a row; where there is none, NotFound came first
abbrev pub status_of : Option Row → Reply
status_of None = reply.Empty
status_of (Some row) = reply.Status (record { kind = row.kind; mode = shown_mode row.acl; has_acl = has_acl row.acl; owner = row.owner; group = row.group; file = detail_of_row row.file })

-- what `getfacl` tells of a row
abbrev pub acl_status_of : Option Row → Reply
acl_status_of None = reply.Empty
acl_status_of (Some row) = reply.Acl (record { owner = row.owner; group = row.group; spec = spec_text (entries row.acl) })

-- the name of what has a path; the root has none
abbrev pub own_name : List (List ℕ) → List (List ℕ)
own_name [] = []
own_name (name ∷ names) = last_name (name ∷ names) ∷ []

-- the names that a directory holds, or a file's own
abbrev pub listed_names : List (List ℕ) → Option Row → List Row → List (List ℕ)
listed_names path None rows = []
listed_names path (Some row) rows = if is_directory row then child_names path rows else own_name path

abbrev pub bytes_in : List Row → ℕ
bytes_in [] = 0
bytes_in (row ∷ rows) = file_bytes row.file + bytes_in rows

-- how many directories and files there are, and how many bytes the files hold
abbrev pub summary_of : List Row → Reply
summary_of rows = reply.Summary (record { directories = length (filter is_directory rows); files = length (filter (λ row. not (is_directory row)) rows); bytes = bytes_in rows })

-- the serial of a new key; where there is none, the spent serial was refused
abbrev pub serial_reply : Option ℕ → Reply
serial_reply None = reply.Empty
serial_reply (Some serial) = reply.Serial serial

abbrev pub reply_of : Facts → List ℕ → Op → List Row → Reply
reply_of facts caller (op.Stat path) rows = status_of (row_at path rows)
reply_of facts caller (op.List path) rows = reply.Names (listed_names path (row_at path rows) rows)
reply_of facts caller (op.Summary path) rows = summary_of (rows_under path rows)
reply_of facts caller (op.Delete path recursive) rows = reply.Deleted (length (rows_under path rows))
reply_of facts caller (op.GetAcl path) rows = acl_status_of (row_at path rows)
reply_of facts caller (op.Append path) rows = appended_reply facts.blocks (holder_at (row_at path rows)) (unfinished_at (row_at path rows))
reply_of facts caller (op.AddBlock path last) rows = added_to facts.token caller facts.blocks last facts.now (replication_at (row_at path rows))
reply_of facts caller (op.Complete path last) rows = reply.Closed (bytes_behind_at last (row_at path rows))
reply_of facts caller (op.Open path) rows = opened_reply facts.token caller facts.blocks (blocks_of_row (row_at path rows))
reply_of facts caller (op.RollKey key) rows = serial_reply facts.next_serial
reply_of facts caller op.Tick rows = reply.Expired (record { closed = length (expired_files facts rows); recovering = length (begun_in facts rows) })
reply_of facts caller op.Heartbeat rows = heartbeat_reply facts caller (node_of caller)
reply_of facts caller _ rows = reply.Empty

-- What is made beneath the names that are still to be made: the last, behind which there is none, has the mode that was asked for,
-- and is a file where one was.
abbrev pub mode_of_new : ℕ → List (List ℕ) → ℕ
mode_of_new mode [] = mode
mode_of_new mode (name ∷ names) = for_missing_parent mode

abbrev pub file_of_new : Option FileRow → List (List ℕ) → Option FileRow
file_of_new file [] = file
file_of_new file (name ∷ names) = None

abbrev pub kind_of_new : Option FileRow → ObjectKind
kind_of_new None = Directory
kind_of_new (Some file) = File

-- what is made in a directory with this access control list inherits from it
abbrev pub new_at : Acl → List ℕ → List ℕ → ℕ → Option FileRow → List (List ℕ) → Row
new_at above group owner mode file path =
    record { path = path; kind = kind_of_new file; owner = owner; group = group; acl = inherited_acl above mode (kind_of_new file); file = file }

-- a new row has its parent's group
abbrev pub new_row : Row → List ℕ → ℕ → Option FileRow → List ℕ → Row
new_row above owner mode file name = new_at above.acl above.group owner mode file (above.path ++ name ∷ [])

-- rows of these names, each beneath the one before
abbrev pub new_rows : Row → List ℕ → ℕ → Option FileRow → List (List ℕ) → List Row
new_rows above owner mode file [] = []
new_rows above owner mode file (name ∷ names) =
    let made = new_row above owner (mode_of_new mode names) (file_of_new file names) name in made ∷ new_rows made owner mode file names

-- the rows with what is made at a path, a directory or a file, and with the missing directories above it: those of its names
-- behind the last component that exists above it. Where a file had the path, it goes; the root is above every other path.
abbrev pub with_new : List (List ℕ) → ℕ → Option FileRow → List ℕ → Option Row → List Row → List Row
with_new path mode file owner None rows = rows
with_new path mode file owner (Some above) rows = with_sub_tree rows (new_rows above owner mode file (drop (length above.path) path))

abbrev pub made_at : List (List ℕ) → ℕ → List ℕ → Option Row → List Row → List Row
made_at path mode owner None rows = with_new path mode None owner (ancestor path rows) rows
made_at path mode owner (Some row) rows = rows

-- the rows with what stands at a path given another mode, or another owner and group
abbrev pub with_mode_at : List (List ℕ) → ℕ → Option Row → List Row → List Row
with_mode_at path mode None rows = rows
with_mode_at path mode (Some row) rows = row_rewritten path (change.List (with_mode mode row.kind row.acl)) rows

abbrev pub with_owner_at : List (List ℕ) → Option (List ℕ) → Option (List ℕ) → Option Row → List Row → List Row
with_owner_at path owner group None rows = rows
with_owner_at path owner group (Some row) rows = row_rewritten path (change.Owner (unwrap_or owner row.owner) (unwrap_or group row.group)) rows

-- the rows with the access control list of what stands at a path changed
abbrev pub with_list_at : List (List ℕ) → Result Acl Refusal → List Row → List Row
with_list_at path (Ok acl) rows = row_rewritten path (change.List acl) rows
with_list_at path (Err refusal) rows = rows

abbrev pub with_acl_at : List (List ℕ) → AclChange → Option Row → List Row → List Row
with_acl_at path form None rows = rows
with_acl_at path form (Some row) rows = with_list_at path (acl_change form row.kind row.acl) rows

abbrev pub rows_after : Facts → Op → List ℕ → List Row → List Row
rows_after facts (op.Mkdirs path mode) caller rows = made_at path mode caller (row_at path rows) rows
rows_after facts (op.Delete path recursive) caller rows = without path rows
rows_after facts (op.Rename from to) caller rows = with_rows_moved from to rows
rows_after facts (op.SetMode path mode) caller rows = with_mode_at path mode (row_at path rows) rows
rows_after facts (op.SetOwner path owner group) caller rows = with_owner_at path owner group (row_at path rows) rows
rows_after facts (op.SetAcl path change) caller rows = with_acl_at path change (row_at path rows) rows
rows_after facts (op.Create path mode replication over) caller rows = with_new path mode (Some (new_file replication caller)) caller (ancestor path rows) rows
rows_after facts (op.Append path) caller rows =
    row_rewritten path (change.State (state_after_append facts.blocks facts.now caller (holder_at (row_at path rows)) (unfinished_at (row_at path rows)))) rows
rows_after facts (op.AddBlock path last) caller rows = with_block_at path last facts.blocks.known.next_block rows
rows_after facts (op.Complete path last) caller rows = ended_at path last rows
rows_after facts (op.SetReplication path replication) caller rows = row_rewritten path (change.Replication replication) rows
rows_after facts op.Tick caller rows = map (row_ticked facts (begun_in facts rows)) rows
rows_after facts (op.CommitRecovery recovered) caller rows = recovery_ended recovered.block recovered.length rows
rows_after facts _ caller rows = rows

abbrev pub users_after : Op → Users → Users
users_after (op.AddUser user groups) users = with_user users user groups
users_after (op.SetGroups user groups) users = with_groups users user groups
users_after (op.SetChecking on) users = with_checking users on
users_after _ users = users

abbrev pub refused_or_done : Facts → List Row → Users → List ℕ → Op → Option Refusal → Step
refused_or_done facts rows users caller op None = record { verdict = Done (reply_of facts caller op rows); rows = rows_after facts op caller rows; users = users_after op users }
refused_or_done facts rows users caller op (Some refusal) = record { verdict = Refused refusal; rows = rows; users = users }

-- a refusal leaves rows and users as they are
abbrev pub outcome : Facts → List Row → Users → List ℕ → Op → Step
outcome facts rows users caller op = refused_or_done facts rows users caller op (first_refusal facts caller op rows users)

abbrev pub denied_or_outcome : Facts → List Row → Users → List ℕ → Op → Option denied.Denial → Step
denied_or_outcome facts rows users caller op None = outcome facts rows users caller op
denied_or_outcome facts rows users caller op (Some denial) = record { verdict = Denied denial; rows = rows; users = users }

-- the decision first, and then the outcome
abbrev pub step : Facts → List Row → Users → List ℕ → Op → Step
step facts rows users caller op = denied_or_outcome facts rows users caller op (decision rows users caller op)
