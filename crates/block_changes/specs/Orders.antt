-- What a DataNode is told with the answer to its heartbeat.
-- (HDFS Architecture, "Data Disk Failure, Heartbeats and Re-Replication": the NameNode's instructions leave with that answer; HDFS-265 for
-- recoveries.)
use Rattle.std.specs.Prelude.{ℕ, List, map, Option}
use Rattle.std.specs.List.{filter_map}
use Rattle.std.specs.Option.{option_map}
use Rattle.block_records.specs.declared.block_record.BlockRecord.{BlockRecord}
use Rattle.block_records.specs.declared.mark.Mark.{Mark}
use Rattle.block_records.specs.Marks.{marks_for}
use Rattle.block_changes.specs.Copies.{transfers_of}
use Rattle.block_changes.specs.declared.transfer.HandOut.{HandOut}
use Rattle.block_changes.specs.declared.transfer.Transfer.{Transfer}
use Rattle.recovery_queue.specs.Queue.{led_by}
use Rattle.known_blocks.specs.Known.{KnownBlocks, block_of}
use Rattle.block_changes.specs.declared.recovery.Recovery.{Recovery}

pub record Instructions : Type 0 where
  -- the recoveries that the node is to lead, by block
  pub recoveries : List Recovery
  -- the replicas that it is to remove, by block and then by stamp
  pub removals : List Mark
  -- the copies that it is to make, by block
  pub copies : List Transfer

-- of a block that is known its newest stamp and all its expected nodes, live or not
abbrev pub recovery_by : ℕ → Option BlockRecord → Option Recovery
recovery_by block found = option_map (λ (own : BlockRecord). record { block = block; stamp = own.stamp; nodes = own.expected }) found

-- the recoveries that a node is to lead, by block
abbrev pub recoveries_to_lead : KnownBlocks → List (ℕ × ℕ) → ℕ → List Recovery
recoveries_to_lead known queue node = filter_map (λ block. recovery_by block (block_of known block)) (led_by node queue)

abbrev pub orders_for : KnownBlocks → List (ℕ × ℕ) → List Mark → HandOut → ℕ → Instructions
orders_for known queue marks at node = record {
  recoveries = recoveries_to_lead known queue node;
  removals = marks_for node marks;
  copies = transfers_of known.blocks at node;
}

abbrev pub copied_blocks : List Transfer → List ℕ
copied_blocks copies = map (λ copy. copy.block) copies
