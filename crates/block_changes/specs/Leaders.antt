-- Which recoveries of blocks begin, and who leads them.
-- (HDFS-265: the recovery of a block gives it a newer generation stamp, and is led by one of its DataNodes, the one that was heard of last.)
use Rattle.std.specs.Prelude.{ℕ, not, List, [], if◌then◌else◌, Option, Some, None}
use Rattle.std.specs.List.{filter_map}
use Rattle.std.specs.Option.{is_some, option_map, option_or}
use Rattle.block_records.specs.declared.block_record.BlockRecord.{BlockRecord}
use Rattle.block_records.specs.declared.fault.BlockRefusal.{BlockRefusal}
use Rattle.block_records.specs.declared.fault.BlockRefusal.TheVariants.{NotFound, TooFewNodes}
use Rattle.heartbeats.specs.Live.{Heartbeats, primary_of}
use Rattle.recovery_queue.specs.Queue.{put}
use Rattle.recovery_queue.specs.declared.begun.BegunRecovery.{BegunRecovery}
use Rattle.known_blocks.specs.Known.{KnownBlocks, block_of, with_stamps, refused_new_stamp}

-- the nodes that are to hold a block; none where it isn't known
abbrev pub expected_by : Option BlockRecord → List ℕ
expected_by None = []
expected_by (Some own) = own.expected

-- the node that is to lead a recovery of a block: of its expected nodes the live one that was heard of last
abbrev pub leader_of : KnownBlocks → Heartbeats → ℕ → ℕ → Option ℕ
leader_of known nodes block now = primary_of nodes now (expected_by (block_of known block))

-- ---- one recovery

abbrev pub refused_unled : Option ℕ → Option BlockRefusal
refused_unled None = Some TooFewNodes
refused_unled (Some node) = None

-- the block has to be known, and a stamp to be left
abbrev pub refused_unstamped : KnownBlocks → ℕ → Option BlockRefusal
refused_unstamped known block = if not (is_some (block_of known block)) then Some NotFound else refused_new_stamp known

-- and one of its expected nodes to be live
abbrev pub refused_to_begin : KnownBlocks → Heartbeats → ℕ → ℕ → Option BlockRefusal
refused_to_begin known nodes block now = option_or (refused_unstamped known block) (refused_unled (leader_of known nodes block now))

abbrev pub queued_for : Option ℕ → ℕ → List (ℕ × ℕ) → List (ℕ × ℕ)
queued_for None block queued = queued
queued_for (Some primary) block queued = put queued block primary

-- ---- many at once

-- those of these blocks that a live node can lead, each with this node, in this order
abbrev pub blocks_with_leaders : KnownBlocks → Heartbeats → List ℕ → ℕ → List (ℕ × ℕ)
blocks_with_leaders known nodes blocks now = filter_map (λ block. option_map (λ node. (block, node)) (leader_of known nodes block now)) blocks

-- their recoveries, as long as stamps are left; the other blocks are passed over
abbrev pub recoveries_to_begin : KnownBlocks → Heartbeats → List ℕ → ℕ → List BegunRecovery
recoveries_to_begin known nodes blocks now = with_stamps known.next_stamp (blocks_with_leaders known nodes blocks now)
