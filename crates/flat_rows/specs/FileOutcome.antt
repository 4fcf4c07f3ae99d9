-- What the operations on files refuse and answer: who may write a file, one client at a time.
-- (HDFS Architecture, "The File System Namespace" and "Data Replication"; the limits of leases are this project's choice.)
use Rattle.std.specs.Prelude.{ℕ, Bool, true, false, ◌&&◌, ◌||◌, List, length, if◌then◌else◌, Option, Some, None}
use Rattle.hdfs_values.specs.Text.{same}
use Rattle.file_states.specs.declared.state.FileState.{FileState}
use Rattle.file_states.specs.declared.state.FileState.TheVariants.{Closed, Open, Recovering}
use Rattle.hdfs_types.specs.declared.file.FileDetail.{FileDetail}
use Rattle.refusals.specs.declared.refusal.Refusal.{Refusal}
use Rattle.refusals.specs.declared.refusal.Refusal.TheVariants.{IsDirectory, Exists, RecoveryRunning, NoLease, NotOpen}
use Rattle.namespace_rows.specs.declared.file_row.FileRow.{FileRow}
use Rattle.namespace_rows.specs.declared.row.Row.{Row}
use Rattle.namespace_rows.specs.Rows.{is_directory}
use Rattle.file_blocks.specs.Blocks.{length_of}
use Rattle.namespace_rows.specs.Files.{holder_of_file}

-- how the leases of clients stand when a request is judged
pub record LeaseFacts : Type 0 where
  -- neither past the soft limit nor past the hard one
  pub is_live : List ℕ → Bool
  pub is_past_hard : List ℕ → Bool

-- ---- refusals

-- a directory has the path
abbrev pub directory_there : Option Row → Option Refusal
directory_there None = None
directory_there (Some row) = if is_directory row then Some IsDirectory else None

-- a file has the path, and isn't to be replaced
abbrev pub file_there : Bool → Option Row → Option Refusal
file_there true at = None
file_there false None = None
file_there false (Some row) = if is_directory row then None else Some Exists

abbrev pub if_some_file : (FileRow → Option Refusal) → Option FileRow → Option Refusal
if_some_file refused None = None
if_some_file refused (Some file) = refused file

-- a file has the path, and this refuses it
abbrev pub of_file : (FileRow → Option Refusal) → Option Row → Option Refusal
of_file refused None = None
of_file refused (Some row) = if_some_file refused row.file

-- only the client who has a file open writes it
abbrev pub refused_by_state : List ℕ → FileState → Option Refusal
refused_by_state caller Closed = Some NotOpen
refused_by_state caller (Recovering block stamp begun) = Some RecoveryRunning
refused_by_state caller (Open holder) = if same caller holder then None else Some NoLease

abbrev pub refused_write : List ℕ → FileRow → Option Refusal
refused_write caller file = refused_by_state caller file.state

-- ---- replies

abbrev pub detail_of : FileRow → FileDetail
detail_of file = record { replication = file.replication; length = length_of file.blocks; state = file.state }

abbrev pub detail_of_row : Option FileRow → Option FileDetail
detail_of_row None = None
detail_of_row (Some file) = Some (detail_of file)

abbrev pub file_bytes : Option FileRow → ℕ
file_bytes None = 0
file_bytes (Some file) = length_of file.blocks

abbrev pub holder_at : Option Row → Option (List ℕ)
holder_at None = None
holder_at (Some row) = holder_of_file row.file
