-- Laws of what is done: what has to be there before, what stands there after, and what the caller is told. Each holds of every attempt on a
-- namespace. They follow from the rules, so a slip in the rules that breaks one is refused, also where code and rule have it together.
-- (HDFS Architecture, "The File System Namespace" and "Data Replication"; HDFS Permissions Guide, "Overview".)
use Rattle.std.specs.Prelude.{◌≡◌, ℕ, ◌+◌, ◌-◌, ◌==◌, ◌/◌, ◌%◌, nat_lt, if◌then◌else◌, Bool, true, false, ◌&&◌, not, List, filter, [], ◌∷◌, ◌++◌, length, Option, Some, None, Ok, unwrap_or, IsTrue}
use Rattle.std.specs.List.{list_any, list_all, sum_by}
use Rattle.std.specs.Option.{is_some, option_map_or, IsSomeAnd}
use Rattle.hdfs_values.specs.Text.{same}
use Rattle.permission_bits.specs.Mode.{is_mode, without_sticky}
use Rattle.file_paths.specs.Path.{is_prefix, is_beneath}
use Rattle.file_paths.specs.PathOrder.{same_path}
use Rattle.file_states.specs.declared.state.FileState.TheVariants.{Closed}
use Rattle.block_records.specs.declared.last_block.LastBlock.{LastBlock}
use Rattle.block_answers.specs.LocatedBlocks.{OpenedFile}
use Rattle.refusals.specs.Refusal.{refusal_code, refusal_text}
use Rattle.refusals.specs.declared.refusal.Refusal.{Refusal}
use Rattle.refusals.specs.declared.refusal.Refusal.TheVariants.{NotDirectory, BadAcl, LeaseHeld, StaleStamp, Spent}
use Rattle.refusals.specs.declared.refusal.Counter.TheVariants.{Serial}
use Rattle.hdfs_values.specs.declared.fault.AclFault.TheVariants.{NoBase}
use Rattle.hdfs_types.specs.declared.op.Op.{Op}
use Rattle.hdfs_types.specs.declared.op.Op.TheVariants as op
use Rattle.hdfs_types.specs.declared.file.FileDetail.{FileDetail}
use Rattle.hdfs_types.specs.declared.reply.FileStatus.{FileStatus}
use Rattle.hdfs_types.specs.declared.reply.ContentSummary.{ContentSummary}
use Rattle.hdfs_types.specs.declared.reply.Reply.TheVariants as reply
use Rattle.hdfs_types.specs.declared.reply.Reply.TheVariants.{Summary, Deleted, Names, Status, Opened}
use Rattle.principals.specs.Users.{groups_of, is_known}
use Rattle.file_blocks.specs.Blocks.{length_of}
use Rattle.permission_specs.specs.declared.acl_change.AclChange.{AclChange}
use Rattle.acl_entries.specs.Acl.{shown_mode}
use Rattle.partial_acl.specs.AclChange.{acl_change}
use Rattle.namespace_rows.specs.declared.file_row.FileRow.{FileRow}
use Rattle.namespace_rows.specs.declared.row.Row.{Row}
use Rattle.namespace_rows.specs.Namespace.{IsNamespace, is_root}
use Rattle.namespace_rows.specs.Rows.{is_directory}
use Rattle.namespace_rows.specs.Files.{new_file, is_open_by}
use Rattle.flat_rows.specs.declared.verdict.Verdict.TheVariants.{Done}
use Rattle.flat_rows.specs.Verdicts.{is_done}
use Rattle.block_records.specs.Marks.{marks_for}
use Rattle.recovery_queue.specs.Queue.{led_by}
use Rattle.block_records.specs.declared.block_record.BlockRecord.{BlockRecord}
use Rattle.heartbeats.specs.Live.{is_live, live_nodes}
use Rattle.block_changes.specs.Copies.{reports}
use Rattle.block_changes.specs.declared.transfer.Transfer.{Transfer}
use Rattle.block_map.specs.BlockFacts.{Blocks, known_block}
use Rattle.block_map.specs.BlockEffects.{instructions_for, with_node_heard, with_heartbeat_answered}
use Rattle.permission_laws.specs.Attempt.{Attempt, IsLastAbove, attempt_step, IsDone, row_before, row_after, taken_path, made_path, may}

-- ---- what has to be there before

-- a file that isn't to replace another is made where nothing stands
abbrev pub CreationsReplaceNothing : Type 0
CreationsReplaceNothing = (attempt : Attempt) (path : List (List ℕ)) (mode replication : ℕ)
    → IsDone attempt → attempt.op ≡ op.Create path mode replication false → row_before attempt path ≡ None

-- and one that is to, where no directory stands
abbrev pub CreationsReplaceNoDirectory : Type 0
CreationsReplaceNoDirectory = (attempt : Attempt) (path : List (List ℕ)) (mode replication : ℕ) (over : Bool) (row : Row)
    → IsDone attempt → attempt.op ≡ op.Create path mode replication over → row_before attempt path ≡ Some row → is_directory row ≡ false

-- what is renamed comes to stand where nothing stood
abbrev pub RenamesReplaceNothing : Type 0
RenamesReplaceNothing = (attempt : Attempt) (from to : List (List ℕ)) → IsDone attempt → attempt.op ≡ op.Rename from to → row_before attempt to ≡ None

-- where a directory is made and something stands, that is a directory, and stays as it is
abbrev pub DirectoriesStay : Type 0
DirectoriesStay = (attempt : Attempt) (path : List (List ℕ)) (mode : ℕ) (row : Row)
    → IsDone attempt → attempt.op ≡ op.Mkdirs path mode → row_before attempt path ≡ Some row → (is_directory row ≡ true) × (row_after attempt path ≡ Some row)

-- what is deleted without its sub-tree holds nothing
abbrev pub DeletionsTakeWhatHoldsNothing : Type 0
DeletionsTakeWhatHoldsNothing = (attempt : Attempt) (path other : List (List ℕ))
    → IsDone attempt → attempt.op ≡ op.Delete path false → is_beneath other path ≡ true → row_before attempt other ≡ None

-- the root is neither deleted nor renamed
abbrev pub RootStays : Type 0
RootStays = (attempt : Attempt) (path : List (List ℕ)) → IsDone attempt → taken_path attempt.op ≡ Some path → is_root path ≡ false

-- ---- what stands there after

abbrev pub is_rename : Op → Bool
is_rename (op.Rename from to) = true
is_rename _ = false

-- what appears, but by a rename, is its maker's
abbrev pub WhatAppearsIsItsMakers : Type 0
WhatAppearsIsItsMakers = (attempt : Attempt) (path : List (List ℕ)) (row : Row)
    → is_rename attempt.op ≡ false → row_before attempt path ≡ None → row_after attempt path ≡ Some row → row.owner ≡ attempt.caller

-- and has the group of the last component that stood above the path that is made
abbrev pub WhatAppearsHasTheGroupAbove : Type 0
WhatAppearsHasTheGroupAbove = (attempt : Attempt) (made path : List (List ℕ)) (above row : Row)
    → IsNamespace attempt.rows → is_rename attempt.op ≡ false → made_path attempt.op ≡ Some made → IsLastAbove attempt above made
    → row_before attempt path ≡ None → row_after attempt path ≡ Some row → row.group ≡ above.group

-- what is to be made stands there: a directory
abbrev pub DirectoriesAreMade : Type 0
DirectoriesAreMade = (attempt : Attempt) (path : List (List ℕ)) (mode : ℕ)
    → IsNamespace attempt.rows → IsDone attempt → attempt.op ≡ op.Mkdirs path mode → IsSomeAnd (row_after attempt path) (λ row. is_directory row ≡ true)

-- the row of a new file: its maker's, with the group of what stood above it, empty, open for its maker, and with the replication that was asked for
pub record IsNewFile (attempt : Attempt) (above : Row) (replication : ℕ) (row : Row) : Type 0 where
  pub owner : row.owner ≡ attempt.caller
  pub group : row.group ≡ above.group
  pub file : row.file ≡ Some (new_file replication attempt.caller)

-- or a file, also where it replaces another
abbrev pub FilesAreMade : Type 0
FilesAreMade = (attempt : Attempt) (path : List (List ℕ)) (mode replication : ℕ) (over : Bool) (above : Row)
    → IsNamespace attempt.rows → IsDone attempt → attempt.op ≡ op.Create path mode replication over → IsLastAbove attempt above path
    → IsSomeAnd (row_after attempt path) (IsNewFile attempt above replication)

-- where the last component that stood above has no default list, what is made shows the mode that was asked for, also behind missing parents; a file
-- has no sticky bit
abbrev pub DirectoriesShowTheModeAskedFor : Type 0
DirectoriesShowTheModeAskedFor = (attempt : Attempt) (path : List (List ℕ)) (mode : ℕ) (above row : Row)
    → IsNamespace attempt.rows → IsTrue (is_mode mode) → IsDone attempt → attempt.op ≡ op.Mkdirs path mode → row_before attempt path ≡ None
    → IsLastAbove attempt above path → above.acl.default ≡ None → row_after attempt path ≡ Some row → shown_mode row.acl ≡ mode

abbrev pub FilesShowTheModeAskedFor : Type 0
FilesShowTheModeAskedFor = (attempt : Attempt) (path : List (List ℕ)) (mode replication : ℕ) (over : Bool) (above row : Row)
    → IsNamespace attempt.rows → IsTrue (is_mode mode) → IsDone attempt → attempt.op ≡ op.Create path mode replication over
    → IsLastAbove attempt above path → above.acl.default ≡ None → row_after attempt path ≡ Some row → shown_mode row.acl ≡ without_sticky mode

-- parents that are made on the way grant their maker write and traverse, where the last component that stood above has no default list
abbrev pub MissingParentsServeTheirMakers : Type 0
MissingParentsServeTheirMakers = (attempt : Attempt) (made path : List (List ℕ)) (above row : Row)
    → IsNamespace attempt.rows → is_rename attempt.op ≡ false → made_path attempt.op ≡ Some made → IsLastAbove attempt above made → above.acl.default ≡ None
    → is_beneath made path ≡ true → row_before attempt path ≡ None → row_after attempt path ≡ Some row → may 3 attempt row ≡ true

-- an owner and a group that are given are those of what stands there, and one that isn't given stays
abbrev pub OwnersAreAsGiven : Type 0
OwnersAreAsGiven = (attempt : Attempt) (path : List (List ℕ)) (owner group : Option (List ℕ)) (row later : Row)
    → IsDone attempt → attempt.op ≡ op.SetOwner path owner group → row_before attempt path ≡ Some row → row_after attempt path ≡ Some later
    → (later.owner ≡ unwrap_or owner row.owner) × (later.group ≡ unwrap_or group row.group)

-- a mode that is given is then shown, and of a file without the sticky bit
abbrev pub ModesAreAsGiven : Type 0
ModesAreAsGiven = (attempt : Attempt) (path : List (List ℕ)) (mode : ℕ) (later : Row)
    → IsTrue (is_mode mode) → IsDone attempt → attempt.op ≡ op.SetMode path mode → row_after attempt path ≡ Some later
    → shown_mode later.acl ≡ (if is_directory later then mode else without_sticky mode)

-- a change of entries that is done is that of the list that stood there
abbrev pub ListsAreAsChanged : Type 0
ListsAreAsChanged = (attempt : Attempt) (path : List (List ℕ)) (change : AclChange) (row later : Row)
    → IsDone attempt → attempt.op ≡ op.SetAcl path change → row_before attempt path ≡ Some row → row_after attempt path ≡ Some later → acl_change change row.kind row.acl ≡ Ok later.acl

-- a replication that is given is then the file's
abbrev pub ReplicationsAreAsGiven : Type 0
ReplicationsAreAsGiven = (attempt : Attempt) (path : List (List ℕ)) (replication : ℕ) (later : Row) (file : FileRow)
    → IsDone attempt → attempt.op ≡ op.SetReplication path replication → row_after attempt path ≡ Some later → later.file ≡ Some file → file.replication ≡ replication

-- a user and the groups that an operation gives him
abbrev pub given_groups : Op → Option (List ℕ × List (List ℕ))
given_groups (op.AddUser user groups) = Some (user, groups)
given_groups (op.SetGroups user groups) = Some (user, groups)
given_groups _ = None

-- who is given groups is then known, and has these groups and no others
abbrev pub GroupsAreAsGiven : Type 0
GroupsAreAsGiven = (attempt : Attempt) (user : List ℕ) (groups : List (List ℕ)) → IsDone attempt → given_groups attempt.op ≡ Some (user, groups)
    → (is_known (attempt_step attempt).users user ≡ true) × (groups_of (attempt_step attempt).users user ≡ groups)

-- everybody else is known as before, with the groups that he had
abbrev pub GroupsOfOthersStay : Type 0
GroupsOfOthersStay = (attempt : Attempt) (user other : List ℕ) (groups : List (List ℕ)) → given_groups attempt.op ≡ Some (user, groups) → same other user ≡ false
    → (is_known (attempt_step attempt).users other ≡ is_known attempt.users other) × (groups_of (attempt_step attempt).users other ≡ groups_of attempt.users other)

-- the names of the superuser and of the supergroup stay
abbrev pub SuperNamesStay : Type 0
SuperNamesStay = (attempt : Attempt) → ((attempt_step attempt).users.superuser ≡ attempt.users.superuser) × ((attempt_step attempt).users.supergroup ≡ attempt.users.supergroup)

-- the state of permission checking that an operation asks for
abbrev pub asked_checking : Op → Option Bool
asked_checking (op.SetChecking on) = Some on
asked_checking _ = None

-- permission checking is then as was asked for
abbrev pub CheckingIsAsAskedFor : Type 0
CheckingIsAsAskedFor = (attempt : Attempt) (on : Bool) → IsDone attempt → asked_checking attempt.op ≡ Some on → (attempt_step attempt).users.checking ≡ on

-- and it stays as it is where nobody asks, or it isn't done
abbrev pub CheckingStays : Type 0
CheckingStays = (attempt : Attempt) → (asked_checking attempt.op ≡ None → (attempt_step attempt).users.checking ≡ attempt.users.checking)
    × (is_done (attempt_step attempt).verdict ≡ false → (attempt_step attempt).users.checking ≡ attempt.users.checking)

-- ---- who writes

-- the client has open what stands there
abbrev pub has_open : List ℕ → Option Row → Bool
has_open client at = option_map_or (is_open_by client) at false

-- the operation asks to write what stands at the path
abbrev pub asks_to_write : Op → List (List ℕ) → Bool
asks_to_write (op.Create top mode replication over) path = same_path path top
asks_to_write (op.Append top) path = same_path path top
asks_to_write _ path = false

-- who has a file open had it open before, or asks to write it himself; of a rename see that what it moves is as it was
abbrev pub WritersAskForThemselves : Type 0
WritersAskForThemselves = (attempt : Attempt) (path : List (List ℕ)) (client : List ℕ)
    → is_rename attempt.op ≡ false → (same client attempt.caller && asks_to_write attempt.op path) ≡ false
    → has_open client (row_after attempt path) ≡ true → has_open client (row_before attempt path) ≡ true

-- the operation takes away what stands at the path: deletes it, moves it, or makes another file in its place
abbrev pub takes_away : Op → List (List ℕ) → Bool
takes_away (op.Delete top recursive) path = is_prefix top path
takes_away (op.Rename from to) path = is_prefix from path
takes_away (op.Create top mode replication true) path = same_path path top
takes_away _ path = false

-- who has a file open keeps it while his lease is live, whatever others ask for, until it is taken away; that he isn't past the hard limit is a
-- premise of its own, since both facts are handed in
abbrev pub LiveWritersKeepTheirFiles : Type 0
LiveWritersKeepTheirFiles = (attempt : Attempt) (path : List (List ℕ)) (client : List ℕ)
    → IsNamespace attempt.rows → attempt.facts.leases.is_live client ≡ true → attempt.facts.leases.is_past_hard client ≡ false
    → same attempt.caller client ≡ false → takes_away attempt.op path ≡ false → has_open client (row_before attempt path) ≡ true → has_open client (row_after attempt path) ≡ true

-- ---- what is told

-- a deletion tells how many rows there are fewer
abbrev pub DeletionsTellHowManyGo : Type 0
DeletionsTellHowManyGo = (attempt : Attempt) (path : List (List ℕ)) (recursive : Bool) (count : ℕ)
    → attempt.op ≡ op.Delete path recursive → (attempt_step attempt).verdict ≡ Done (Deleted count) → length attempt.rows ≡ length (attempt_step attempt).rows + count

-- which is how many a summary told of the same path over the same rows
abbrev pub SummariesCountWhatGoes : Type 0
SummariesCountWhatGoes = (look deletion : Attempt) (path : List (List ℕ)) (recursive : Bool) (summary : ContentSummary) (count : ℕ)
    → look.rows ≡ deletion.rows → look.op ≡ op.Summary path → deletion.op ≡ op.Delete path recursive
    → (attempt_step look).verdict ≡ Done (Summary summary) → (attempt_step deletion).verdict ≡ Done (Deleted count) → summary.directories + summary.files ≡ count

-- the committed bytes of all files, replicas not counted
abbrev pub bytes_held : List Row → ℕ
bytes_held rows = sum_by (λ (row : Row). option_map_or (λ (file : FileRow). length_of file.blocks) row.file 0) rows

-- and as many bytes are there fewer as the summary told
abbrev pub SummariesTellTheBytesThatGo : Type 0
SummariesTellTheBytesThatGo = (look deletion : Attempt) (path : List (List ℕ)) (recursive : Bool) (summary : ContentSummary)
    → look.rows ≡ deletion.rows → look.op ≡ op.Summary path → deletion.op ≡ op.Delete path recursive
    → (attempt_step look).verdict ≡ Done (Summary summary) → IsDone deletion → bytes_held deletion.rows ≡ bytes_held (attempt_step deletion).rows + summary.bytes

-- who opens a file to read is told the length that its status tells, over the same rows
abbrev pub ReadersAreToldTheLength : Type 0
ReadersAreToldTheLength = (look reading : Attempt) (path : List (List ℕ)) (status : FileStatus) (detail : FileDetail) (opened : OpenedFile)
    → look.rows ≡ reading.rows → look.op ≡ op.Stat path → reading.op ≡ op.Open path
    → (attempt_step look).verdict ≡ Done (Status status) → status.file ≡ Some detail → (attempt_step reading).verdict ≡ Done (Opened opened) → opened.length ≡ detail.length

-- who completes a file is told the length that it then has, and it is closed
abbrev pub WritersAreToldTheLength : Type 0
WritersAreToldTheLength = (attempt : Attempt) (path : List (List ℕ)) (last : Option LastBlock) (later : Row) (file : FileRow)
    → IsDone attempt → attempt.op ≡ op.Complete path last → row_after attempt path ≡ Some later → later.file ≡ Some file
    → ((attempt_step attempt).verdict ≡ Done (reply.Closed (length_of file.blocks))) × (file.state ≡ Closed)

-- a listing tells a name where something stands by that name in the directory, and no other
abbrev pub DirectoriesListWhatTheyHold : Type 0
DirectoriesListWhatTheyHold = (attempt : Attempt) (path : List (List ℕ)) (directory : Row) (names : List (List ℕ)) (name : List ℕ)
    → attempt.op ≡ op.List path → row_before attempt path ≡ Some directory → is_directory directory ≡ true → (attempt_step attempt).verdict ≡ Done (Names names)
    → list_any (same name) names ≡ is_some (row_before attempt (path ++ name ∷ []))

-- ---- what a DataNode is told with the answer to its heartbeat

-- a DataNode is told once of a replica that it is to remove and of a recovery that it is to lead, and not again at its next heartbeat
abbrev pub InstructionsAreToldOnce : Type 0
InstructionsAreToldOnce = (facts : Blocks) (node now later : ℕ)
    → ((instructions_for (with_heartbeat_answered facts node now) later node).removals ≡ []) × ((instructions_for (with_heartbeat_answered facts node now) later node).recoveries ≡ [])

-- which replicas others are to remove, and which recoveries they are to lead, stays
abbrev pub InstructionsOfOthersStay : Type 0
InstructionsOfOthersStay = (facts : Blocks) (node other now : ℕ) → (other == node) ≡ false
    → (marks_for other (with_heartbeat_answered facts node now).marks ≡ marks_for other facts.marks) × (led_by other (with_heartbeat_answered facts node now).queued ≡ led_by other facts.queued)

-- what is known of a block says that a node may be told to copy it so: its length is committed, fewer live nodes report it than its replication, nobody was
-- told to copy it within the retry limit, the node reports it, and the copy is of its newest stamp and goes to a live node that doesn't report it
abbrev pub is_to_copy : Blocks → ℕ → ℕ → Transfer → ℕ × BlockRecord → Bool
is_to_copy facts now node copy entry =
    (entry.0 == copy.block) && ((entry.1.stamp == copy.stamp) && (is_some entry.1.committed && (nat_lt (length (filter (reports entry.1) (live_nodes facts.nodes now))) entry.1.replication
    && (option_map_or (λ last. nat_lt facts.retry (now - last)) entry.1.handed_out true && (reports entry.1 node && (is_live facts.nodes now copy.target && not (reports entry.1 copy.target)))))))

-- a DataNode is told to make such copies alone
abbrev pub CopiesAreNeeded : Type 0
CopiesAreNeeded = (facts : Blocks) (node now : ℕ) → list_all (λ copy. list_any (is_to_copy (with_node_heard facts node now) now node copy) facts.known.blocks) (instructions_for facts now node).copies ≡ true

-- and of each of these blocks that is known then the moment is noted, from which the retry limit runs
abbrev pub CopiesAreNoted : Type 0
CopiesAreNoted = (facts : Blocks) (node now block : ℕ) (later : BlockRecord)
    → list_any (λ (copy : Transfer). copy.block == block) (instructions_for facts now node).copies ≡ true → known_block (with_heartbeat_answered facts node now) block ≡ Some later
    → later.handed_out ≡ Some now

-- ---- how a refusal is told

-- a refusal with the same behind its name as all others of its kind
abbrev pub bare : Refusal → Refusal
bare (NotDirectory file) = NotDirectory []
bare (BadAcl fault) = BadAcl NoBase
bare (LeaseHeld client) = LeaseHeld []
bare (StaleStamp newest) = StaleStamp 0
bare (Spent counter) = Spent Serial
bare refusal = refusal

-- refusals of one code are of one kind
abbrev pub CodesTellKinds : Type 0
CodesTellKinds = (one other : Refusal) → refusal_code one ≡ refusal_code other → bare one ≡ bare other

-- a number below 100, in digits
abbrev pub digits_of : ℕ → List ℕ
digits_of number = if nat_lt number 10 then (48 + number) ∷ [] else (48 + number / 10) ∷ (48 + number % 10) ∷ []

-- what is printed begins with the code and a blank
abbrev pub CodesStandInFront : Type 0
CodesStandInFront = (refusal : Refusal) → (name : List ℕ) × (refusal_text refusal ≡ digits_of (refusal_code refusal) ++ 32 ∷ name)
