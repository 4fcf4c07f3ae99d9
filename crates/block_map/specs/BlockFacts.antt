-- What is known of blocks and of the DataNodes that hold them, and the questions that are asked of it.
-- (HDFS Architecture, "Data Replication" and "Data Disk Failure, Heartbeats and Re-Replication"; HDFS-265 for recoveries.)
use Rattle.std.specs.Prelude.{ℕ, ◌==◌, List, Option, Some}
use Rattle.std.specs.Option.{option_map, option_and_then}
use Rattle.block_records.specs.declared.block_record.BlockRecord.{BlockRecord}
use Rattle.block_records.specs.declared.fault.BlockRefusal.{BlockRefusal}
use Rattle.block_records.specs.declared.mark.Mark.{Mark}
use Rattle.block_placement.specs.Placement.{targets}
use Rattle.block_tables.specs.Kept.{load}
use Rattle.heartbeats.specs.Live.{Heartbeats, live_nodes}
use Rattle.block_changes.specs.Leaders as leaders
use Rattle.block_changes.specs.Ends as ends
use Rattle.block_changes.specs.Copies as copies
use Rattle.block_changes.specs.declared.transfer.Transfer.{Transfer}
use Rattle.known_blocks.specs.Known as known
use Rattle.known_blocks.specs.Known.{KnownBlocks}
use Rattle.block_changes.specs.Orders as orders
use Rattle.block_changes.specs.declared.recovery.Recovery.{Recovery}
use Rattle.block_changes.specs.Behind.{reports_by, refused_length, refused_without_nodes}

pub record Blocks : Type 0 where
  -- in milliseconds: a recovery or a copy is asked for again behind this time
  pub retry : ℕ
  pub known : KnownBlocks
  pub nodes : Heartbeats
  -- the replicas that nodes are still to be told to remove
  pub marks : List Mark
  -- the blocks whose recovery a node is still to be told to lead, each with this node
  pub queued : List (ℕ × ℕ)

-- ---- one block

abbrev pub known_block : Blocks → ℕ → Option BlockRecord
known_block facts block = known.block_of facts.known block

-- nothing is told of a block that isn't known
abbrev pub newest_stamp : Blocks → ℕ → Option ℕ
newest_stamp facts block = option_map (λ (own : BlockRecord). own.stamp) (known_block facts block)

abbrev pub committed_length : Blocks → ℕ → Option ℕ
committed_length facts block = option_and_then (λ (own : BlockRecord). own.committed) (known_block facts block)

abbrev pub recovering_since : Blocks → ℕ → Option ℕ
recovering_since facts block = option_and_then (λ (own : BlockRecord). own.recovering) (known_block facts block)

abbrev pub expected_nodes : Blocks → ℕ → List ℕ
expected_nodes facts block = leaders.expected_by (known_block facts block)

-- the nodes that reported a block at its newest stamp, by id, each with the length
abbrev pub reports_of : Blocks → ℕ → List (ℕ × ℕ)
reports_of facts block = reports_by (known_block facts block)

-- ---- nodes

-- the live nodes that have the fewest blocks, as many as there are to be replicas, or all
abbrev pub chosen_targets : Blocks → ℕ → ℕ → List ℕ
chosen_targets facts now replication = targets (load facts.known.blocks) replication (live_nodes facts.nodes now)

-- the node that is to lead a recovery of a block: of its expected nodes the live one that was heard of last
abbrev pub leader : Blocks → ℕ → ℕ → Option ℕ
leader facts block now = leaders.leader_of facts.known facts.nodes block now

-- ---- what a node is told

-- the recoveries that a node is to lead, by block
abbrev pub recoveries_for : Blocks → ℕ → List Recovery
recoveries_for facts node = orders.recoveries_to_lead facts.known facts.queued node

-- the blocks whose recovery is to be begun anew
abbrev pub due_recoveries : Blocks → ℕ → List ℕ
due_recoveries facts now = known.due_blocks facts.known facts.retry now

-- the copies that a node is to make now, by block
abbrev pub transfers_for : Blocks → ℕ → ℕ → List Transfer
transfers_for facts now node = copies.transfers_of facts.known.blocks (record { live = live_nodes facts.nodes now; moment = now; retry = facts.retry }) node

-- ---- refusals

-- a node has to be live
abbrev pub refused_targets : Blocks → ℕ → Option BlockRefusal
refused_targets facts now = refused_without_nodes (live_nodes facts.nodes now)

-- a node has to have reported the block at its newest stamp with this length
abbrev pub refused_commit : Blocks → ℕ → ℕ → Option BlockRefusal
refused_commit facts block length = refused_length (known_block facts block) length

-- the block has to be known, a stamp to be left, and one of its expected nodes to be live
abbrev pub refused_recovery : Blocks → ℕ → ℕ → Option BlockRefusal
refused_recovery facts block now = leaders.refused_to_begin facts.known facts.nodes block now

-- the block has to be known, the stamp to be its newest, and a recovery to run
abbrev pub refused_recovered : Blocks → ℕ → ℕ → Option BlockRefusal
refused_recovered facts block stamp = ends.refused_recovered_by (known_block facts block) stamp
