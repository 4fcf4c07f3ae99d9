-- What can happen to what is known of blocks: each call of the map of blocks has one of these effects.
use Rattle.std.specs.Prelude.{ℕ, ◌==◌, List, [], map, fold, if◌then◌else◌, Option, Some, None}
use Rattle.std.specs.Option.{option_or}
use Rattle.block_records.specs.Marks.{with_mark, with_marks, marks_for, marks_but}
use Rattle.block_records.specs.Verdicts.{verdict_by}
use Rattle.block_records.specs.declared.fault.BlockRefusal.{BlockRefusal}
use Rattle.block_records.specs.declared.report.ReportVerdict.{ReportVerdict}
use Rattle.block_records.specs.declared.report.ReportVerdict.TheVariants.{Superseded, Invalid, Valid}
use Rattle.block_changes.specs.declared.transfer.Transfer.{Transfer}
use Rattle.block_tables.specs.Changes.{with_report, without_report, with_replication, with_length, with_recovered}
use Rattle.recovery_queue.specs.Queue as queue
use Rattle.recovery_queue.specs.declared.begun.BegunRecovery.{BegunRecovery}
use Rattle.block_changes.specs.Leaders as leaders
use Rattle.block_changes.specs.Ends as ends
use Rattle.block_changes.specs.Removals as removals
use Rattle.heartbeats.specs.Live as nodes
use Rattle.known_blocks.specs.Known as known
use Rattle.known_blocks.specs.Known.{KnownBlocks, with_block_changed, refused_new_block}
use Rattle.block_records.specs.declared.last_block.LastBlock.{LastBlock}
use Rattle.block_changes.specs.Behind.{marks_of_others}
use Rattle.block_changes.specs.declared.behind.NewBlock.{NewBlock}
use Rattle.block_changes.specs.Orders.{Instructions}
use Rattle.block_map.specs.BlockFacts.{Blocks, known_block, newest_stamp, leader, chosen_targets, recoveries_for, transfers_for, refused_targets, refused_commit}

-- ---- effects

-- a new block, which these nodes are to hold
abbrev pub with_block_added : Blocks → List ℕ → ℕ → Blocks
with_block_added facts targets replication = record facts { known = known.with_new_block facts.known targets replication }

-- a block is known no more, each node that was to hold it or reported it is to remove its replica, and no recovery of it waits
abbrev pub with_block_removed : Blocks → ℕ → Blocks
with_block_removed facts block = record facts {
  known = known.without_block facts.known block;
  marks = with_marks facts.marks (removals.marks_of_holders block (known_block facts block));
  queued = queue.without_recovery facts.queued block;
}

-- the same of many blocks at once
abbrev pub with_blocks_removed : Blocks → List ℕ → Blocks
with_blocks_removed facts blocks = record facts {
  known = known.without_each_block facts.known blocks;
  marks = with_marks facts.marks (removals.marks_of_all_holders facts.known blocks);
  queued = queue.without_each facts.queued blocks;
}

abbrev pub with_block_replication : Blocks → ℕ → ℕ → Blocks
with_block_replication facts block replication = record facts { known = with_block_changed (with_replication replication) block facts.known }

-- the length is committed, and each node that reported another one is to remove its replica
abbrev pub with_length_committed : Blocks → ℕ → ℕ → Blocks
with_length_committed facts block length = record facts {
  known = with_block_changed (with_length length) block facts.known;
  marks = with_marks facts.marks (marks_of_others block length (known_block facts block));
}

-- ---- a writer's request for a new block

-- the length of the file's last block is committed, if one is named
abbrev pub committed_last : Blocks → Option LastBlock → Blocks
committed_last facts None = facts
committed_last facts (Some last) = with_length_committed facts last.block last.length

abbrev pub refused_last : Blocks → Option LastBlock → Option BlockRefusal
refused_last facts None = None
refused_last facts (Some last) = refused_commit facts last.block last.length

-- a node has to have reported that length, a node to be live, and numbers to be left, in this order
abbrev pub refused_behind : Blocks → Option LastBlock → ℕ → Option BlockRefusal
refused_behind facts last now = option_or (refused_last facts last) (option_or (refused_targets facts now) (refused_new_block facts.known))

-- the new block gets the next numbers, and the nodes are chosen behind that commit
abbrev pub given_behind : Blocks → Option LastBlock → ℕ → ℕ → NewBlock
given_behind facts last now replication =
    record { block = facts.known.next_block; stamp = facts.known.next_stamp; targets = chosen_targets (committed_last facts last) now replication }

abbrev pub added_behind : Blocks → Option LastBlock → ℕ → ℕ → Blocks
added_behind facts last now replication = with_block_added (committed_last facts last) (chosen_targets (committed_last facts last) now replication) replication

-- ---- heartbeats

abbrev pub with_node_heard : Blocks → ℕ → ℕ → Blocks
with_node_heard facts node now = record facts { nodes = nodes.with_heartbeat facts.nodes node now }

-- a node was told of the replicas that it is to remove
abbrev pub told_marks : Blocks → ℕ → Blocks
told_marks facts node = record facts { marks = marks_but node facts.marks }

-- ---- recoveries

-- a recovery of a block begins under the next stamp, which its leader is to be told; one that waits for another node is forgotten
abbrev pub with_recovery_begun : Blocks → ℕ → ℕ → Blocks
with_recovery_begun facts block now = record facts { known = known.with_next_recovery facts.known block now; queued = leaders.queued_for (leader facts block now) block facts.queued }

-- of these blocks those that a live node can lead, as long as stamps are left, each with its stamp and this node, in this order
abbrev pub recoveries_begun : Blocks → List ℕ → ℕ → List BegunRecovery
recoveries_begun facts blocks now = leaders.recoveries_to_begin facts.known facts.nodes blocks now

-- their recoveries begin, one after another; the other blocks are passed over
abbrev pub with_recoveries_begun : Blocks → List ℕ → ℕ → Blocks
with_recoveries_begun facts blocks now = fold (λ left own. with_recovery_begun left own.block now) facts (recoveries_begun facts blocks now)

-- the length is committed that the recovery found, with the nodes that took part; each other node that reported another length is to
-- remove its replica
abbrev pub with_recovery_ended : Blocks → ℕ → ℕ → List ℕ → Blocks
with_recovery_ended facts block length nodes = record facts {
  known = with_block_changed (with_recovered length nodes) block facts.known;
  marks = with_marks facts.marks (ends.marks_but_of nodes block length (known_block facts block));
}

-- a node was told of the recoveries that it is to lead
abbrev pub told_recoveries : Blocks → ℕ → Blocks
told_recoveries facts node = record facts { queued = queue.without_led_by facts.queued node }

-- a node was told now to make these copies
abbrev pub told_transfers : Blocks → ℕ → List Transfer → Blocks
told_transfers facts now transfers = record facts { known = known.with_copies_told facts.known (map (λ transfer. transfer.block) transfers) now }

-- ---- a heartbeat's answer

-- what a node is told at its heartbeat: that is noted first, so that the node is live
abbrev pub instructions_for : Blocks → ℕ → ℕ → Instructions
instructions_for facts now node = record {
  recoveries = recoveries_for (with_node_heard facts node now) node;
  removals = marks_for node (with_node_heard facts node now).marks;
  copies = transfers_for (with_node_heard facts node now) now node;
}

-- a node's heartbeat is noted, and it was told all that
abbrev pub with_heartbeat_answered : Blocks → ℕ → ℕ → Blocks
with_heartbeat_answered facts node now =
    told_transfers (told_marks (told_recoveries (with_node_heard facts node now) node) node) now (transfers_for (with_node_heard facts node now) now node)

-- ---- a node's report of a replica

abbrev pub with_replica_held : Blocks → ℕ → ℕ → ℕ → Blocks
with_replica_held facts node block length = record facts { known = with_block_changed (with_report node length) block facts.known }

-- the node's report ends with a replica of the newest stamp
abbrev pub without_report_at : Option ℕ → ℕ → ℕ → ℕ → KnownBlocks → KnownBlocks
without_report_at None stamp node block own = own
without_report_at (Some newest) stamp node block own = if newest == stamp then with_block_changed (without_report node) block own else own

-- the node is to remove its replica
abbrev pub with_replica_invalid : Blocks → ℕ → ℕ → ℕ → Blocks
with_replica_invalid facts node block stamp = record facts {
  known = without_report_at (newest_stamp facts block) stamp node block facts.known;
  marks = with_mark facts.marks (record { node = node; block = block; stamp = stamp });
}

abbrev pub reported_by : ReportVerdict → Blocks → ℕ → ℕ → ℕ → ℕ → Blocks
reported_by Superseded facts node block stamp length = facts
reported_by Invalid facts node block stamp length = with_replica_invalid facts node block stamp
reported_by Valid facts node block stamp length = with_replica_held facts node block length

abbrev pub with_replica_reported : Blocks → ℕ → ℕ → ℕ → ℕ → Blocks
with_replica_reported facts node block stamp length = reported_by (verdict_by (known_block facts block) stamp length) facts node block stamp length
