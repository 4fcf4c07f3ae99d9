-- Of which length a DataNode reports a replica of a block, as the requests tell it: a question about one node and one block, answered by
-- going back through the entries of a history. What a NameNode knows of reports is what they told; who opens a file is told just of the nodes
-- that report its blocks; and a node whose replica is marked is to remove it.
-- (HDFS Architecture, "Data Replication": the NameNode knows replicas by the reports of DataNodes; HDFS-265 for stamps and recoveries.)
use Rattle.std.specs.Prelude.{◌≡◌, ℕ, ◌==◌, Bool, true, false, ◌&&◌, not, List, [], ◌∷◌, if◌then◌else◌, Option, Some, None}
use Rattle.std.specs.List.Sorted.{IsStrictlyIncreasing}
use Rattle.std.specs.Option.{option_or, option_and_then}
use Rattle.node_ids.specs.NodeId.{node_of}
use Rattle.block_records.specs.Numbers.{has_number, entry_at}
use Rattle.block_records.specs.Verdicts.{agrees}
use Rattle.block_records.specs.declared.last_block.LastBlock.{LastBlock}
use Rattle.block_changes.specs.Copies.{is_the}
use Rattle.block_map.specs.BlockFacts.{newest_stamp, committed_length, reports_of}
use Rattle.block_answers.specs.LocatedBlocks.{OpenedFile}
use Rattle.block_answers.specs.declared.located.LocatedBlock.{LocatedBlock}
use Rattle.hdfs_types.specs.declared.op.Op.{Op}
use Rattle.hdfs_types.specs.declared.op.Op.TheVariants.{AddBlock, Complete, Reported, CommitRecovery}
use Rattle.hdfs_types.specs.declared.replica.RecoveredBlock.{RecoveredBlock}
use Rattle.hdfs_types.specs.declared.replica.ReportedReplica.{ReportedReplica}
use Rattle.hdfs_types.specs.declared.reply.Reply.{Reply}
use Rattle.hdfs_types.specs.declared.reply.Reply.TheVariants as reply
use Rattle.flat_rows.specs.declared.verdict.Verdict.{Verdict}
use Rattle.flat_rows.specs.declared.verdict.Verdict.TheVariants.{Done, Denied, Refused}
use Rattle.history.specs.declared.entry.HistoryEntry.{HistoryEntry}
use Rattle.history.specs.Config.{Opening}
use Rattle.history.specs.LegalHistory.{IsLegal}
use Rattle.history.specs.State.{blocks_of}
use Rattle.cluster_trace.specs.Provenance.{IsIn}

-- ---- a replica, and what one request tells of it

-- a replica by its node, its block and its stamp
pub record NodeReplica : Type 0 where
  pub node : ℕ
  pub block : ℕ
  pub stamp : ℕ

abbrev pub replica_on : ℕ → ℕ → ℕ → NodeReplica
replica_on node block stamp = record { node = node; block = block; stamp = stamp }

-- the caller is its node, and reports it
abbrev pub is_report_of : ReportedReplica → List ℕ → NodeReplica → Bool
is_report_of replica caller own = is_the own.node (node_of caller) && ((replica.block == own.block) && (replica.stamp == own.stamp))

-- a recovery of its block ends, at its stamp
abbrev pub is_end_of : RecoveredBlock → NodeReplica → Bool
is_end_of recovery own = (recovery.block == own.block) && (recovery.stamp == own.stamp)

-- the length that is told of it: a report is effective where no other length is committed, and the end of a recovery tells of each node that
-- it names
abbrev pub length_told : Option ℕ → Op → List ℕ → NodeReplica → Option ℕ
length_told committed (Reported replica) caller own = if is_report_of replica caller own && agrees replica.length committed then Some replica.length else None
length_told committed (CommitRecovery recovery) caller own = if is_end_of recovery own && has_number own.node recovery.nodes then Some recovery.length else None
length_told committed _ caller own = None

-- a writer tells another length of his file's last block
abbrev pub tells_otherwise : Option LastBlock → ℕ → ℕ → Bool
tells_otherwise None block length = false
tells_otherwise (Some last) block length = (last.block == block) && not (length == last.length)

-- it is marked, where this length was reported of it: by a report that isn't effective, and where another length is committed, but for the
-- nodes that the end of a recovery names
abbrev pub is_marked : Option ℕ → Op → List ℕ → NodeReplica → ℕ → Bool
is_marked committed (Reported replica) caller own length = is_report_of replica caller own && not (agrees replica.length committed)
is_marked committed (CommitRecovery recovery) caller own length = is_end_of recovery own && (not (has_number own.node recovery.nodes) && not (length == recovery.length))
is_marked committed (AddBlock path last) caller own length = tells_otherwise last own.block length
is_marked committed (Complete path last) caller own length = tells_otherwise last own.block length
is_marked committed _ caller own length = false

-- the length that was reported of it stays where it isn't marked
abbrev pub stays_reported : Option ℕ → Op → List ℕ → NodeReplica → Option ℕ → Option ℕ
stays_reported committed op caller own None = None
stays_reported committed op caller own (Some length) = if is_marked committed op caller own length then None else Some length

-- what is denied or refused tells nothing
abbrev pub reported_behind : Verdict → Option ℕ → Op → List ℕ → NodeReplica → Option ℕ → Option ℕ
reported_behind (Done told) committed op caller own before = option_or (length_told committed op caller own) (stays_reported committed op caller own before)
reported_behind (Denied denial) committed op caller own before = before
reported_behind (Refused refusal) committed op caller own before = before

-- ---- what all requests tell

-- the last length that was told of a replica, if no mark follows; nothing is told of one at a stamp that its block hasn't as the newest
abbrev pub told_of : Opening → List HistoryEntry → NodeReplica → Option ℕ
told_of opening [] own = None
told_of opening (entry ∷ earlier) own =
    if is_the own.stamp (newest_stamp (blocks_of opening earlier) own.block)
    then reported_behind entry.verdict (committed_length (blocks_of opening earlier) own.block) entry.request.op entry.request.caller own (told_of opening earlier own)
    else None

-- the length that a node reports of a block: at the newest stamp, and none where the block isn't known
abbrev pub reported_length : Opening → List HistoryEntry → ℕ → ℕ → Option ℕ
reported_length opening entries node block = option_and_then (λ stamp. told_of opening entries (replica_on node block stamp)) (newest_stamp (blocks_of opening entries) block)

-- ---- laws

-- so it is known, of each node and each block
abbrev pub ReportsAreAsTold : Type 0
ReportsAreAsTold = (opening : Opening) (entries : List HistoryEntry) (node block : ℕ) → IsLegal opening entries
    → entry_at node (reports_of (blocks_of opening entries) block) ≡ reported_length opening entries node block

-- who opens a file is told just of the nodes that report a block of it, and of the length that they report
abbrev pub ReportingNodesAreListed : Type 0
ReportingNodesAreListed = (opening : Opening) (entry : HistoryEntry) (earlier : List HistoryEntry) (file : OpenedFile) (listed : LocatedBlock) (node : ℕ) → IsLegal opening (entry ∷ earlier)
    → entry.verdict ≡ Done (reply.Opened file) → IsIn listed file.blocks
    → reported_length opening earlier node listed.block ≡ (if has_number node listed.nodes then Some listed.length else None)

-- they stand by their ids, each once
abbrev pub ListedNodesAscend : Type 0
ListedNodesAscend = (opening : Opening) (entry : HistoryEntry) (earlier : List HistoryEntry) (file : OpenedFile) (listed : LocatedBlock) → IsLegal opening (entry ∷ earlier)
    → entry.verdict ≡ Done (reply.Opened file) → IsIn listed file.blocks → IsStrictlyIncreasing listed.nodes

-- and a node whose replica a request marks is to remove it
abbrev pub MarkedReplicasAreToBeRemoved : Type 0
MarkedReplicasAreToBeRemoved = (opening : Opening) (entry : HistoryEntry) (earlier : List HistoryEntry) (node block stamp length : ℕ) (told : Reply) → IsLegal opening (entry ∷ earlier) → entry.verdict ≡ Done told
    → newest_stamp (blocks_of opening earlier) block ≡ Some stamp → reported_length opening earlier node block ≡ Some length
    → is_marked (committed_length (blocks_of opening earlier) block) entry.request.op entry.request.caller (replica_on node block stamp) length ≡ true
    → IsIn (record { node = node; block = block; stamp = stamp }) (blocks_of opening (entry ∷ earlier)).marks

-- as each node that reported a block that is deleted is
abbrev pub DeletedReplicasAreToBeRemoved : Type 0
DeletedReplicasAreToBeRemoved = (opening : Opening) (entry : HistoryEntry) (earlier : List HistoryEntry) (node block stamp length : ℕ) → IsLegal opening (entry ∷ earlier)
    → newest_stamp (blocks_of opening earlier) block ≡ Some stamp → newest_stamp (blocks_of opening (entry ∷ earlier)) block ≡ None → reported_length opening earlier node block ≡ Some length
    → IsIn (record { node = node; block = block; stamp = stamp }) (blocks_of opening (entry ∷ earlier)).marks
