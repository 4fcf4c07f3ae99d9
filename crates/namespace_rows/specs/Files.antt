-- What a file has beside what a directory has: its replication, its blocks, and who may write it.
-- (HDFS Architecture, "The File System Namespace" and "Data Replication".)
use Rattle.std.specs.Prelude.{ℕ, ◌+◌, ◌-◌, ◌==◌, Bool, false, if◌then◌else◌, List, [], ◌∷◌, ◌++◌, map, filter, Option, Some, None}
use Rattle.std.specs.List.{list_any, flat_map}
use Rattle.std.specs.Option.{option_to_list}
use Rattle.hdfs_values.specs.Text.{same}
use Rattle.file_states.specs.declared.state.FileState.{FileState}
use Rattle.file_states.specs.declared.state.FileState.TheVariants.{Closed, Open, Recovering}
use Rattle.file_blocks.specs.Blocks.{new_block, but_last, committed_in}
use Rattle.namespace_rows.specs.declared.file_row.FileRow.{FileRow}
use Rattle.namespace_rows.specs.declared.row.Row.{Row}

-- a new file, open for a client to write
abbrev pub new_file : ℕ → List ℕ → FileRow
new_file replication client = record { replication = replication; blocks = []; state = Open client }

abbrev pub with_state : FileState → FileRow → FileRow
with_state state file = record file { state = state }

abbrev pub with_file_replication : ℕ → FileRow → FileRow
with_file_replication replication file = record file { replication = replication }

-- What a file's blocks are (HDFS Architecture, "Data Replication": a file is a sequence of blocks).

abbrev pub ids_of : FileRow → List ℕ
ids_of file = map (λ block. block.id) file.blocks

abbrev pub ids_in : Option FileRow → List ℕ
ids_in None = []
ids_in (Some file) = ids_of file

-- the blocks of all files, in the order of the rows, and those of a file in its order
abbrev pub blocks_in : List Row → List ℕ
blocks_in rows = flat_map (λ row. ids_in row.file) rows

-- a new block at the end of the file ("Data Replication": a client that writes asks for one block after the other)
abbrev pub with_block : ℕ → FileRow → FileRow
with_block id file = record file { blocks = file.blocks ++ new_block id ∷ [] }

-- the file without its last block
abbrev pub without_last : FileRow → FileRow
without_last file = record file { blocks = but_last file.blocks }

abbrev pub committed_at : ℕ → ℕ → FileRow → FileRow
committed_at id bytes file = record file { blocks = committed_in id bytes file.blocks }

-- the file closed, with the length of this block committed ("Data Replication")
abbrev pub completed_at : ℕ → ℕ → FileRow → FileRow
completed_at id bytes file = with_state Closed (committed_at id bytes file)

-- the state of a file whose last block, this one, is recovered ("Data Replication"; HDFS-265, "Block recovery")
abbrev pub state_recovers : ℕ → FileState → Bool
state_recovers id Closed = false
state_recovers id (Open client) = false
state_recovers id (Recovering own stamp begun) = own == id

-- where this block is recovered, the end of that: its length is committed, and the file closed
abbrev pub recovered_at : ℕ → ℕ → FileRow → FileRow
recovered_at id bytes file = if state_recovers id file.state then completed_at id bytes file else file

-- the client who has the file open
abbrev pub holder_of : FileState → Option (List ℕ)
holder_of Closed = None
holder_of (Open client) = Some client
holder_of (Recovering block stamp begun) = None

abbrev pub is_client : List ℕ → Option (List ℕ) → Bool
is_client client None = false
is_client client (Some holder) = same client holder

abbrev pub holder_of_file : Option FileRow → Option (List ℕ)
holder_of_file None = None
holder_of_file (Some file) = holder_of file.state

-- the row is a file that the client has open
abbrev pub is_open_by : List ℕ → Row → Bool
is_open_by client row = is_client client (holder_of_file row.file)

-- the clients who have these files open, one for each open file
abbrev pub holders : List Row → List (List ℕ)
holders rows = flat_map (λ row. option_to_list (holder_of_file row.file)) rows

-- the files that a client has open
abbrev pub open_files : List ℕ → List Row → List Row
open_files client rows = filter (is_open_by client) rows

abbrev pub has_open_file : List ℕ → List Row → Bool
has_open_file client rows = list_any (is_open_by client) rows
