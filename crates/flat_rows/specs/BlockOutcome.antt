-- What writers and readers ask of blocks: what refuses a new block and the end of a file, what they are told of blocks, and what a writer
-- leaves of the blocks of a file.
-- (HDFS Architecture, "Data Replication" and "Replication Pipelining"; HADOOP-4359 for the tokens. That a DataNode has to have reported the
-- last block is this project's own rule.)
use Rattle.std.specs.Prelude.{ℕ, ◌==◌, Bool, true, false, List, [], ◌∷◌, if◌then◌else◌, Option, Some, None}
use Rattle.std.specs.Option.{option_map, option_and_then}
use Rattle.std.specs.List.{filter_map}
use Rattle.std.specs.Map.{keys_of}
use Rattle.permission_bits.specs.Modes.{modes}
use Rattle.file_states.specs.declared.state.FileState.TheVariants.{Closed}
use Rattle.block_records.specs.declared.last_block.LastBlock.{LastBlock}
use Rattle.block_answers.specs.declared.located.LocatedBlock.{LocatedBlock}
use Rattle.hdfs_types.specs.declared.reply.Reply.{Reply}
use Rattle.hdfs_types.specs.declared.reply.Reply.TheVariants as reply
use Rattle.refusals.specs.declared.refusal.Refusal.{Refusal}
use Rattle.refusals.specs.declared.refusal.Refusal.TheVariants.{NotYetReplicated}
use Rattle.refusals.specs.BlockRefusals.{refusal_of}
use Rattle.block_records.specs.declared.block_record.BlockRecord.{BlockRecord}
use Rattle.block_records.specs.declared.fault.BlockRefusal.{BlockRefusal}
use Rattle.block_changes.specs.declared.behind.NewBlock.{NewBlock}
use Rattle.block_map.specs.BlockFacts.{Blocks, known_block, refused_commit}
use Rattle.block_map.specs.BlockEffects.{refused_behind, given_behind}
use Rattle.file_blocks.specs.declared.blocks.FileBlock.{FileBlock}
use Rattle.namespace_rows.specs.declared.file_row.FileRow.{FileRow}
use Rattle.namespace_rows.specs.declared.row.Row.{Row}
use Rattle.namespace_rows.specs.declared.row.Change.TheVariants as change
use Rattle.file_blocks.specs.Blocks.{last_of, length_of}
use Rattle.namespace_rows.specs.Files.{ids_in, committed_at}
use Rattle.namespace_rows.specs.Changes.{row_rewritten, block_added}
use Rattle.flat_rows.specs.NodeOutcome.{Tokens}

-- how many replicas each block of a file is to have
abbrev pub replication_of : Option FileRow → Option ℕ
replication_of None = None
replication_of (Some file) = Some file.replication

abbrev pub replication_at : Option Row → Option ℕ
replication_at None = None
replication_at (Some row) = replication_of row.file

-- ---- refusals

abbrev pub has_block_id : ℕ → Option FileBlock → Bool
has_block_id number None = false
has_block_id number (Some block) = number == block.id

-- the writer names the last block of the file, and none where there is none
abbrev pub is_last : Option LastBlock → List FileBlock → Bool
is_last None [] = true
is_last None (block ∷ blocks) = false
is_last (Some last) blocks = has_block_id last.block (last_of blocks)

abbrev pub refused_unless_last : Option LastBlock → FileRow → Option Refusal
refused_unless_last last file = if is_last last file.blocks then None else Some NotYetReplicated

abbrev pub refused_by : Option BlockRefusal → Option Refusal
refused_by refusal = option_map refusal_of refusal

-- a new block: a DataNode has reported that length of the last one, one is live, and numbers are left
abbrev pub refused_new : Blocks → Option LastBlock → ℕ → Option Refusal
refused_new blocks last now = refused_by (refused_behind blocks last now)

-- the end of a file: a DataNode has reported that length of its last block
abbrev pub refused_end : Blocks → Option LastBlock → Option Refusal
refused_end blocks None = None
refused_end blocks (Some last) = refused_by (refused_commit blocks last.block last.length)

-- ---- replies

-- what a writer is told of a new block, who may write it from now on
abbrev pub added_reply : Tokens → List ℕ → NewBlock → Reply
added_reply token caller new = reply.Added (record { block = new.block; stamp = new.stamp; targets = new.targets; token = token caller new.block (modes 2) })

-- where nothing or a directory has the path, another refusal came first
abbrev pub added_to : Tokens → List ℕ → Blocks → Option LastBlock → ℕ → Option ℕ → Reply
added_to token caller blocks last now None = reply.Empty
added_to token caller blocks last now (Some replication) = added_reply token caller (given_behind blocks last now replication)

-- what a reader is told of a block with a committed length, who may read it from now on: its newest stamp, and the nodes that reported it
abbrev pub located_with : Tokens → List ℕ → ℕ → ℕ → BlockRecord → LocatedBlock
located_with token caller block length own =
    record { block = block; stamp = own.stamp; length = length; nodes = keys_of own.reports; token = token caller block (modes 1) }

abbrev pub located_block : Tokens → List ℕ → Blocks → FileBlock → Option LocatedBlock
located_block token caller blocks block =
    option_and_then (λ length. option_map (located_with token caller block.id length) (known_block blocks block.id)) block.committed

abbrev pub opened_reply : Tokens → List ℕ → Blocks → List FileBlock → Reply
opened_reply token caller blocks own = reply.Opened (record { length = length_of own; blocks = filter_map (located_block token caller blocks) own })

abbrev pub blocks_of_file : Option FileRow → List FileBlock
blocks_of_file None = []
blocks_of_file (Some file) = file.blocks

abbrev pub blocks_of_row : Option Row → List FileBlock
blocks_of_row None = []
blocks_of_row (Some row) = blocks_of_file row.file

-- the file behind the commit of its last block
abbrev pub with_last : Option LastBlock → FileRow → FileRow
with_last None file = file
with_last (Some last) file = committed_at last.block last.length file

abbrev pub bytes_behind : Option LastBlock → Option FileRow → ℕ
bytes_behind last None = 0
bytes_behind last (Some file) = length_of (with_last last file).blocks

abbrev pub bytes_behind_at : Option LastBlock → Option Row → ℕ
bytes_behind_at last None = 0
bytes_behind_at last (Some row) = bytes_behind last row.file

-- ---- the rows

-- with the length of the last block of a file committed, if one is named
abbrev pub last_committed : List (List ℕ) → Option LastBlock → List Row → List Row
last_committed path None rows = rows
last_committed path (Some last) rows = row_rewritten path (change.Committed last.block last.length) rows

-- with a new block at the end of a file, and the length of the one before committed
abbrev pub with_block_at : List (List ℕ) → Option LastBlock → ℕ → List Row → List Row
with_block_at path last block rows = last_committed path last (block_added path block rows)

-- with a file closed, and the length of its last block committed
abbrev pub ended_at : List (List ℕ) → Option LastBlock → List Row → List Row
ended_at path last rows = last_committed path last (row_rewritten path (change.State Closed) rows)

-- the numbers of the blocks of what has a path
abbrev pub ids_at : Option Row → List ℕ
ids_at None = []
ids_at (Some row) = ids_in row.file
