-- Which copies of blocks a DataNode is told to make with its heartbeat.
-- (HDFS Architecture, "Data Disk Failure, Heartbeats and Re-Replication": where fewer DataNodes than the replication factor have a block, it
-- is replicated again. Which node copies it, to where, and when it is asked for again are this project's own rules.)
use Rattle.std.specs.Prelude.{ℕ, ◌==◌, ◌-◌, Bool, true, false, ◌&&◌, not, nat_lt, List, filter, length, if◌then◌else◌, Option, Some, None}
use Rattle.std.specs.List.{find, filter_map, slice_get}
use Rattle.std.specs.Option.{is_some, option_map}
use Rattle.block_records.specs.Numbers.{entry_at}
use Rattle.block_records.specs.declared.block_record.BlockRecord.{BlockRecord}
use Rattle.block_placement.specs.Placement.{targets}
use Rattle.block_tables.specs.Kept.{load}
use Rattle.block_changes.specs.declared.transfer.HandOut.{HandOut}
use Rattle.block_changes.specs.declared.transfer.Transfer.{Transfer}

-- a copy isn't asked for again until the last time lies further back than the retry limit
abbrev pub may_hand_out : ℕ → ℕ → Option ℕ → Bool
may_hand_out retry now None = true
may_hand_out retry now (Some last) = nat_lt retry (now - last)

-- ---- nodes

abbrev pub reports : BlockRecord → ℕ → Bool
reports own node = is_some (entry_at node own.reports)

abbrev pub reporting_nodes : BlockRecord → List ℕ → List ℕ
reporting_nodes own live = filter (reports own) live

abbrev pub lacking_nodes : BlockRecord → List ℕ → List ℕ
lacking_nodes own live = filter (λ node. not (reports own node)) live

-- ---- one block

-- its length is committed, fewer live nodes report it than there are to be replicas, and it may be handed out
abbrev pub is_short : HandOut → BlockRecord → Bool
is_short at own = is_some own.committed && (may_hand_out at.retry at.moment own.handed_out && nat_lt (length (reporting_nodes own at.live)) own.replication)

abbrev pub is_the : ℕ → Option ℕ → Bool
is_the node None = false
is_the node (Some first) = first == node

-- the first of the live nodes that report it, which stand by their ids, copies it
abbrev pub copies_from : List ℕ → ℕ → BlockRecord → Bool
copies_from live node own = is_the node (find (reports own) live)

-- to the one with the fewest blocks of the live nodes that don't report it; there may be none
abbrev pub target_of : (ℕ → ℕ) → List ℕ → BlockRecord → Option ℕ
target_of load live own = slice_get (targets load 1 (lacking_nodes own live)) 0

abbrev pub transfer_of : (ℕ → ℕ) → HandOut → ℕ → ℕ → BlockRecord → Option Transfer
transfer_of load at node block own =
    if copies_from at.live node own && is_short at own
    then option_map (λ target. record { block = block; stamp = own.stamp; target = target }) (target_of load at.live own)
    else None

abbrev pub transfer_by : (ℕ → ℕ) → HandOut → ℕ → ℕ → Option BlockRecord → Option Transfer
transfer_by load at node block None = None
transfer_by load at node block (Some own) = transfer_of load at node block own

-- ---- all blocks

-- what a node is to copy, by block
abbrev pub transfers_of : List (ℕ × BlockRecord) → HandOut → ℕ → List Transfer
transfers_of blocks at node = filter_map (λ entry. transfer_of (load blocks) at node entry.0 entry.1) blocks
