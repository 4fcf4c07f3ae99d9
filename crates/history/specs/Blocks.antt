-- What is known of blocks, and of the DataNodes that hold them, when a NameNode opens, and behind each operation.
-- (HDFS Architecture, "Data Replication": a DataNode is known by its heartbeats.)
use Rattle.std.specs.Prelude.{ℕ, List, [], Option, Some, None, fold}
use Rattle.node_ids.specs.NodeId.{node_of}
use Rattle.hdfs_types.specs.declared.op.Op.{Op}
use Rattle.hdfs_types.specs.declared.op.Op.TheVariants.{Create, Delete, Append, AddBlock, Complete, SetReplication, Tick, Heartbeat, Reported, CommitRecovery}
use Rattle.block_records.specs.declared.last_block.LastBlock.{LastBlock}
use Rattle.hdfs_types.specs.declared.replica.ReportedReplica.{ReportedReplica}
use Rattle.block_map.specs.BlockFacts.{Blocks}
use Rattle.block_map.specs.BlockEffects.{added_behind, with_length_committed, with_blocks_removed, with_block_replication, with_recovery_begun, with_recoveries_begun, with_recovery_ended, with_heartbeat_answered, with_replica_reported}
use Rattle.namespace_rows.specs.declared.row.Row.{Row}
use Rattle.namespace_rows.specs.Files.{blocks_in}
use Rattle.namespace_rows.specs.Rows.{row_at}
use Rattle.namespace_rows.specs.Changes.{rows_under}
use Rattle.flat_rows.specs.Facts.{Facts}
use Rattle.flat_rows.specs.FileOutcome.{holder_at}
use Rattle.flat_rows.specs.BlockOutcome.{replication_at, ids_at}
use Rattle.flat_rows.specs.Takeover.{unfinished_at, sought_blocks}
use Rattle.flat_rows.specs.declared.verdict.Verdict.{Verdict}
use Rattle.flat_rows.specs.declared.verdict.Verdict.TheVariants.{Done, Denied, Refused}
use Rattle.history.specs.Config.{Opening}

-- no block is known, and of no node a heartbeat
abbrev pub first_blocks : Opening → Blocks
first_blocks opening = record {
  retry = opening.config.durations.retry_limit;
  known = record { next_block = opening.config.first.block; next_stamp = opening.config.first.stamp; blocks = [] };
  nodes = record { dead = opening.config.durations.dead_limit; last = [] };
  marks = [];
  queued = [];
}

-- the node whose principal sent a heartbeat was heard of, and told what waited for it
abbrev pub heard_of : Option ℕ → ℕ → Blocks → Blocks
heard_of None now blocks = blocks
heard_of (Some node) now blocks = with_heartbeat_answered blocks node now

-- the node whose principal reported a replica holds it, or is to remove it
abbrev pub reported_of : Option ℕ → ReportedReplica → Blocks → Blocks
reported_of None replica blocks = blocks
reported_of (Some node) replica blocks = with_replica_reported blocks node replica.block replica.stamp replica.length

-- a file of this replication has a block more, whose nodes are chosen behind the commit of the one before
abbrev pub file_extended : Option LastBlock → ℕ → Option ℕ → Blocks → Blocks
file_extended last now None blocks = blocks
file_extended last now (Some replication) blocks = added_behind blocks last now replication

-- the length of the last block of a file is committed, if one is named
abbrev pub file_ended : Option LastBlock → Blocks → Blocks
file_ended None blocks = blocks
file_ended (Some last) blocks = with_length_committed blocks last.block last.length

-- each of these blocks is to have so many replicas
abbrev pub all_replicated : ℕ → List ℕ → Blocks → Blocks
all_replicated replication numbers blocks = fold (λ facts block. with_block_replication facts block replication) blocks numbers

-- the unfinished last block of a file that is taken from its holder is recovered from now on
abbrev pub taken_over : Option (List ℕ) → Option ℕ → ℕ → Blocks → Blocks
taken_over holder None now blocks = blocks
taken_over None (Some block) now blocks = blocks
taken_over (Some holder) (Some block) now blocks = with_recovery_begun blocks block now

-- what an operation that is done leaves of blocks and nodes, by the rows before it: the blocks of files that are deleted or replaced are
-- known no more
abbrev pub blocks_after : Facts → Op → List ℕ → List Row → Blocks → Blocks
blocks_after facts (Create path mode replication over) caller rows blocks = with_blocks_removed blocks (blocks_in (rows_under path rows))
blocks_after facts (Delete path recursive) caller rows blocks = with_blocks_removed blocks (blocks_in (rows_under path rows))
blocks_after facts (Append path) caller rows blocks = taken_over (holder_at (row_at path rows)) (unfinished_at (row_at path rows)) facts.now blocks
blocks_after facts (AddBlock path last) caller rows blocks = file_extended last facts.now (replication_at (row_at path rows)) blocks
blocks_after facts (Complete path last) caller rows blocks = file_ended last blocks
blocks_after facts (SetReplication path replication) caller rows blocks = all_replicated replication (ids_at (row_at path rows)) blocks
blocks_after facts Tick caller rows blocks = with_recoveries_begun blocks (sought_blocks facts rows) facts.now
blocks_after facts Heartbeat caller rows blocks = heard_of (node_of caller) facts.now blocks
blocks_after facts (Reported replica) caller rows blocks = reported_of (node_of caller) replica blocks
blocks_after facts (CommitRecovery own) caller rows blocks = with_recovery_ended blocks own.block own.length own.nodes
blocks_after facts _ caller rows blocks = blocks

abbrev pub blocks_by : Facts → Op → List ℕ → Verdict → List Row → Blocks → Blocks
blocks_by facts op caller (Done told) rows blocks = blocks_after facts op caller rows blocks
blocks_by facts op caller (Denied denial) rows blocks = blocks
blocks_by facts op caller (Refused refusal) rows blocks = blocks
