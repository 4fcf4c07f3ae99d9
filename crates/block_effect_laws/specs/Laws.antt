-- What each effect on the map of blocks keeps: ids and stamps are given once, and a committed length stays.
-- (HDFS Architecture, "Data Replication"; HDFS-265 for generation stamps and recoveries.)
use Rattle.std.specs.Prelude.{◌≡◌, ℕ, ◌<◌, ◌≤◌, ◌⊎◌, List, Option, Some, None}
use Rattle.std.specs.Bool.{⊤}
use Rattle.std.specs.List.{AllByRecursion}
use Rattle.std.specs.List.Sorted.{IsStrictlySortedBy}
use Rattle.std.specs.Map.{keys_of}
use Rattle.std.specs.Ordering.{nat_cmp}
use Rattle.block_records.specs.declared.block_record.BlockRecord.{BlockRecord}
use Rattle.block_records.specs.declared.last_block.LastBlock.{LastBlock}
use Rattle.known_blocks.specs.Known.{KnownBlocks, block_of}
use Rattle.block_map.specs.BlockFacts.{Blocks, committed_length, refused_commit}
use Rattle.block_map.specs.BlockEffects.{with_block_added, with_block_removed, with_blocks_removed, with_block_replication, with_length_committed, refused_last, added_behind, with_recovery_begun, with_recoveries_begun, with_recovery_ended, with_heartbeat_answered, with_replica_reported}

-- ---- what is known at one moment

-- where a length is committed, each report that is left has it
abbrev pub AgreeOn : Option ℕ → List (ℕ × ℕ) → Type 0
AgreeOn None reports = ⊤
AgreeOn (Some length) reports = AllByRecursion (λ (report : ℕ × ℕ). report.1 ≡ length) reports

-- number and stamp of a block that is known were given before
pub record IsSoundAt (known : KnownBlocks) (block : ℕ) (own : BlockRecord) : Type 0 where
  pub given : block < known.next_block
  pub stamped : own.stamp < known.next_stamp
  pub agreed : AgreeOn own.committed own.reports

-- no two blocks have one stamp
abbrev pub AreApart : KnownBlocks → Type 0
AreApart known = (block other : ℕ) (own also : BlockRecord) → block_of known block ≡ Some own → block_of known other ≡ Some also → own.stamp ≡ also.stamp → block ≡ other

-- each block stands once, and is so
pub record IsSound (known : KnownBlocks) : Type 0 where
  pub once : IsStrictlySortedBy nat_cmp (keys_of known.blocks)
  pub each : (block : ℕ) (own : BlockRecord) → block_of known block ≡ Some own → IsSoundAt known block own
  pub apart : AreApart known

-- ---- what becomes of it

-- the newest stamp stays, or is one that wasn't given before; a committed length stays; and a recovery that runs did before under this stamp, or
-- has one that wasn't given before
pub record GoesOn (before : KnownBlocks) (own later : BlockRecord) : Type 0 where
  pub stamp : (later.stamp ≡ own.stamp) ⊎ (before.next_stamp ≤ later.stamp)
  pub committed : (length : ℕ) → own.committed ≡ Some length → later.committed ≡ Some length
  pub recovering : (since : ℕ) → later.recovering ≡ Some since → ((own.recovering ≡ Some since) × (later.stamp ≡ own.stamp)) ⊎ (before.next_stamp ≤ later.stamp)

-- a block may go; one that comes has a number and a stamp that weren't given before
abbrev pub Becomes : KnownBlocks → ℕ → Option BlockRecord → Option BlockRecord → Type 0
Becomes before block None None = ⊤
Becomes before block None (Some later) = (before.next_block ≤ block) × (before.next_stamp ≤ later.stamp)
Becomes before block (Some own) None = ⊤
Becomes before block (Some own) (Some later) = GoesOn before own later

pub record KeepsKnown (before later : KnownBlocks) : Type 0 where
  pub sound : IsSound later
  pub next_block : before.next_block ≤ later.next_block
  pub next_stamp : before.next_stamp ≤ later.next_stamp
  pub blocks : (block : ℕ) → Becomes before block (block_of before block) (block_of later block)

-- ---- the effects

abbrev pub Keeps : Blocks → Blocks → Type 0
Keeps before later = IsSound before.known → KeepsKnown before.known later.known

abbrev pub AdditionKeeps : Type 0
AdditionKeeps = (facts : Blocks) (targets : List ℕ) (replication : ℕ) → Keeps facts (with_block_added facts targets replication)

abbrev pub RemovalKeeps : Type 0
RemovalKeeps = (facts : Blocks) (block : ℕ) → Keeps facts (with_block_removed facts block)

abbrev pub RemovalsKeep : Type 0
RemovalsKeep = (facts : Blocks) (blocks : List ℕ) → Keeps facts (with_blocks_removed facts blocks)

abbrev pub ReplicationKeeps : Type 0
ReplicationKeeps = (facts : Blocks) (block replication : ℕ) → Keeps facts (with_block_replication facts block replication)

-- a commit keeps it where it isn't refused
abbrev pub CommitKeeps : Type 0
CommitKeeps = (facts : Blocks) (block length : ℕ) → refused_commit facts block length ≡ None → Keeps facts (with_length_committed facts block length)

abbrev pub RequestKeeps : Type 0
RequestKeeps = (facts : Blocks) (last : Option LastBlock) (now replication : ℕ) → refused_last facts last ≡ None → Keeps facts (added_behind facts last now replication)

abbrev pub BeginKeeps : Type 0
BeginKeeps = (facts : Blocks) (block now : ℕ) → Keeps facts (with_recovery_begun facts block now)

abbrev pub BeginsKeep : Type 0
BeginsKeep = (facts : Blocks) (blocks : List ℕ) (now : ℕ) → Keeps facts (with_recoveries_begun facts blocks now)

-- the end of a recovery does where no length was committed
abbrev pub RecoveryKeeps : Type 0
RecoveryKeeps = (facts : Blocks) (block length : ℕ) (nodes : List ℕ) → committed_length facts block ≡ None → Keeps facts (with_recovery_ended facts block length nodes)

abbrev pub HeartbeatKeeps : Type 0
HeartbeatKeeps = (facts : Blocks) (node now : ℕ) → Keeps facts (with_heartbeat_answered facts node now)

abbrev pub ReportKeeps : Type 0
ReportKeeps = (facts : Blocks) (node block stamp length : ℕ) → Keeps facts (with_replica_reported facts node block stamp length)
