-- What a DataNode is told with the answer to its heartbeat. It is taken in first, and judged behind that: a node that was silent for long is
-- live again, and told so. Tokens of its commands are granted to the node's own principal.
-- (HDFS Architecture, "Data Disk Failure, Heartbeats and Re-Replication"; HDFS-265 for recoveries; HADOOP-4359 for keys and tokens.)
use Rattle.std.specs.Prelude.{ℕ, List, map, Option, Some, None}
use Rattle.permission_bits.specs.Modes.{modes}
use Rattle.permission_bits.specs.declared.modes.Modes.{Modes}
use Rattle.block_answers.specs.KeyList.{KeyList}
use Rattle.block_answers.specs.Commands.{Commands}
use Rattle.block_answers.specs.declared.commands.Recover.{Recover}
use Rattle.block_answers.specs.declared.commands.Removal.{Removal}
use Rattle.block_answers.specs.declared.commands.CopyOrder.{CopyOrder}
use Rattle.hdfs_types.specs.declared.reply.Reply.{Reply}
use Rattle.hdfs_types.specs.declared.reply.Reply.TheVariants as reply
use Rattle.block_records.specs.declared.mark.Mark.{Mark}
use Rattle.block_changes.specs.declared.transfer.Transfer.{Transfer}
use Rattle.block_changes.specs.declared.recovery.Recovery.{Recovery}
use Rattle.block_records.specs.Marks.{marks_for}
use Rattle.block_map.specs.BlockFacts.{Blocks, recoveries_for, transfers_for}
use Rattle.block_map.specs.BlockEffects.{with_node_heard}
use Rattle.flat_rows.specs.Facts.{Facts}

-- the bytes of the token that a user is granted for some modes of a block
abbrev pub Tokens : Type 0
Tokens = List ℕ → ℕ → Modes → List ℕ

-- to lead a recovery takes writing
abbrev pub recover_command : Tokens → List ℕ → Recovery → Recover
recover_command token principal recovery =
    record { block = recovery.block; stamp = recovery.stamp; nodes = recovery.nodes; token = token principal recovery.block (modes 2) }

abbrev pub removal_of : Mark → Removal
removal_of mark = record { block = mark.block; stamp = mark.stamp }

-- to copy a replica takes reading it here and writing it there
abbrev pub copy_command : Tokens → List ℕ → Transfer → CopyOrder
copy_command token principal copy =
    record { block = copy.block; stamp = copy.stamp; target = copy.target; token = token principal copy.block (modes 3) }

abbrev pub commands_of : KeyList → Tokens → List ℕ → List Recovery → List Mark → List Transfer → Commands
commands_of keys token principal recoveries marks copies = record {
  keys = keys;
  recoveries = map (recover_command token principal) recoveries;
  removals = map removal_of marks;
  copies = map (copy_command token principal) copies;
}

-- by what is known of blocks once the heartbeat is taken in
abbrev pub commands_by : Facts → List ℕ → Blocks → ℕ → Commands
commands_by facts principal blocks node =
    commands_of facts.keys facts.token principal (recoveries_for blocks node) (marks_for node blocks.marks) (transfers_for blocks facts.now node)

abbrev pub commands_to : Facts → List ℕ → ℕ → Commands
commands_to facts principal node = commands_by facts principal (with_node_heard facts.blocks node facts.now) node

-- only a node's principal isn't denied
abbrev pub heartbeat_reply : Facts → List ℕ → Option ℕ → Reply
heartbeat_reply facts principal None = reply.Empty
heartbeat_reply facts principal (Some node) = reply.Commands (commands_to facts principal node)
