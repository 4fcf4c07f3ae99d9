-- What holds of blocks in every history: a number is given once, a newest stamp doesn't fall, a committed length stays, no block stands
-- in two places, and the recoveries that run are those of files.
-- (HDFS Architecture, "The File System Namespace" and "Data Replication"; HDFS-265 for generation stamps.)
use Rattle.std.specs.Prelude.{◌≡◌, ℕ, ◌-◌, ◌<◌, ◌≤◌, ◌==◌, Bool, true, false, nat_lt, List, [], ◌∷◌, ◌++◌, map, filter, length, is_some, if◌then◌else◌, Option, Some, None}
use Rattle.std.specs.Bool.{⊤}
use Rattle.std.specs.List.{AllByRecursion, flat_map}
use Rattle.std.specs.List.Sorted.{IsStrictlyIncreasing}
use Rattle.std.specs.Option.{option_map, option_and_then, option_to_list}
use Rattle.file_states.specs.declared.state.FileState.{FileState}
use Rattle.file_states.specs.declared.state.FileState.TheVariants.{Closed, Open, Recovering}
use Rattle.block_answers.specs.LocatedBlocks.{AddedBlock}
use Rattle.hdfs_types.specs.declared.reply.Reply.{Reply}
use Rattle.hdfs_types.specs.declared.reply.Reply.TheVariants as reply
use Rattle.block_records.specs.Numbers.{has_number}
use Rattle.block_records.specs.declared.block_record.BlockRecord.{BlockRecord}
use Rattle.block_map.specs.BlockFacts.{Blocks, known_block, newest_stamp, committed_length, due_recoveries}
use Rattle.file_blocks.specs.declared.blocks.FileBlock.{FileBlock}
use Rattle.namespace_rows.specs.declared.file_row.FileRow.{FileRow}
use Rattle.namespace_rows.specs.declared.row.Row.{Row}
use Rattle.file_blocks.specs.Blocks.{unfinished_block}
use Rattle.namespace_rows.specs.Files.{blocks_in, state_recovers}
use Rattle.namespace_rows.specs.Rows.{row_at}
use Rattle.namespace_rows.specs.Namespace.{IsNamespace}
use Rattle.flat_rows.specs.BlockOutcome as file
use Rattle.namespace_rows.specs.Changes.{is_recovered, recovers_nowhere_else}
use Rattle.flat_rows.specs.Takeover.{sought_of}
use Rattle.flat_rows.specs.declared.verdict.Verdict.{Verdict}
use Rattle.flat_rows.specs.declared.verdict.Verdict.TheVariants.{Done, Denied, Refused}
use Rattle.history.specs.declared.entry.HistoryEntry.{HistoryEntry}
use Rattle.history.specs.Config.{Opening}
use Rattle.history.specs.LegalHistory.{IsLegal}
use Rattle.history.specs.State.{rows_of, blocks_of}

-- ---- numbers that are given

-- the new block that a writer was told of
abbrev pub blocks_told : Reply → List AddedBlock
blocks_told (reply.Added added) = added ∷ []
blocks_told _ = []

abbrev pub blocks_given_by : Verdict → List AddedBlock
blocks_given_by (Done told) = blocks_told told
blocks_given_by (Denied denial) = []
blocks_given_by (Refused refusal) = []

-- all of them, the oldest first
abbrev pub new_blocks : List HistoryEntry → List AddedBlock
new_blocks [] = []
new_blocks (entry ∷ earlier) = new_blocks earlier ++ blocks_given_by entry.verdict

abbrev pub ids_given : List HistoryEntry → List ℕ
ids_given entries = map (λ (new : AddedBlock). new.block) (new_blocks entries)

abbrev pub stamps_given : List HistoryEntry → List ℕ
stamps_given entries = map (λ (new : AddedBlock). new.stamp) (new_blocks entries)

-- no id is given twice, also once its block is deleted
abbrev pub IdsAscend : Type 0
IdsAscend = (opening : Opening) (entries : List HistoryEntry) → IsLegal opening entries → IsStrictlyIncreasing (ids_given entries)

-- nor is a stamp
abbrev pub StampsAscend : Type 0
StampsAscend = (opening : Opening) (entries : List HistoryEntry) → IsLegal opening entries → IsStrictlyIncreasing (stamps_given entries)

-- ---- what is known of a block

abbrev pub is_block_known : Blocks → ℕ → Bool
is_block_known facts block = is_some (known_block facts block)

-- no block is known that no writer was told of
abbrev pub KnownBlocksWereGiven : Type 0
KnownBlocksWereGiven = (opening : Opening) (entries : List HistoryEntry) (block : ℕ) → IsLegal opening entries → is_block_known (blocks_of opening entries) block ≡ true
    → has_number block (ids_given entries) ≡ true

-- the newest stamp of a block is that of no other
abbrev pub StampsAreOwn : Type 0
StampsAreOwn = (opening : Opening) (entries : List HistoryEntry) (block other stamp : ℕ) → IsLegal opening entries
    → newest_stamp (blocks_of opening entries) block ≡ Some stamp → newest_stamp (blocks_of opening entries) other ≡ Some stamp → block ≡ other

-- nor was it that of another at any time before
abbrev pub StampsAreOwnAtAllTimes : Type 0
StampsAreOwnAtAllTimes = (opening : Opening) (later earlier : List HistoryEntry) (block other stamp : ℕ) → IsLegal opening (later ++ earlier)
    → newest_stamp (blocks_of opening earlier) block ≡ Some stamp → newest_stamp (blocks_of opening (later ++ earlier)) other ≡ Some stamp → block ≡ other

-- and a stamp that some block had at any time before is no block's new one
abbrev pub StampsAreNew : Type 0
StampsAreNew = (opening : Opening) (entry : HistoryEntry) (later earlier : List HistoryEntry) (block other stamp : ℕ) → IsLegal opening (entry ∷ (later ++ earlier))
    → newest_stamp (blocks_of opening earlier) other ≡ Some stamp → newest_stamp (blocks_of opening (entry ∷ (later ++ earlier))) block ≡ Some stamp
    → newest_stamp (blocks_of opening (later ++ earlier)) block ≡ Some stamp

-- behind an entry more the newest stamp of a block isn't less
abbrev pub StampsNeverFall : Type 0
StampsNeverFall = (opening : Opening) (entry : HistoryEntry) (earlier : List HistoryEntry) (block stamp later : ℕ) → IsLegal opening (entry ∷ earlier)
    → newest_stamp (blocks_of opening earlier) block ≡ Some stamp → newest_stamp (blocks_of opening (entry ∷ earlier)) block ≡ Some later → stamp ≤ later

-- and a length that was committed is still, while the block is known
abbrev pub LengthsStay : Type 0
LengthsStay = (opening : Opening) (entry : HistoryEntry) (earlier : List HistoryEntry) (block length : ℕ) → IsLegal opening (entry ∷ earlier)
    → committed_length (blocks_of opening earlier) block ≡ Some length → is_block_known (blocks_of opening (entry ∷ earlier)) block ≡ true
    → committed_length (blocks_of opening (entry ∷ earlier)) block ≡ Some length

-- ---- where blocks stand

-- how often a number is among these
abbrev pub times : ℕ → List ℕ → ℕ
times number numbers = length (filter (λ other. other == number) numbers)

-- a block that is known stands in one file, and there in one place; no other stands in any
abbrev pub BlocksStandOnce : Type 0
BlocksStandOnce = (opening : Opening) (entries : List HistoryEntry) (block : ℕ) → IsLegal opening entries
    → times block (blocks_in (rows_of opening entries)) ≡ (if is_block_known (blocks_of opening entries) block then 1 else 0)

-- its number is below the one that is given next
abbrev pub BlocksAreBelow : Type 0
BlocksAreBelow = (opening : Opening) (entries : List HistoryEntry) (block : ℕ) → IsLegal opening entries → is_block_known (blocks_of opening entries) block ≡ true
    → block < (blocks_of opening entries).known.next_block

-- each file has of each of its blocks the length that is committed, or none
abbrev pub LengthsAre : Blocks → List Row → Type 0
LengthsAre facts rows = AllByRecursion (λ (row : Row). AllByRecursion (λ (block : FileBlock). committed_length facts block.id ≡ block.committed) (file.blocks_of_file row.file)) rows

abbrev pub FilesTellLengths : Type 0
FilesTellLengths = (opening : Opening) (entries : List HistoryEntry) → IsLegal opening entries → LengthsAre (blocks_of opening entries) (rows_of opening entries)

-- the rows of a legal history are a namespace
abbrev pub RowsAreNamespace : Type 0
RowsAreNamespace = (opening : Opening) (entries : List HistoryEntry) → IsLegal opening entries → IsNamespace (rows_of opening entries)

-- ---- recoveries

-- the recovery of a block that runs, as the state of a file
abbrev pub running_since : ℕ → ℕ → Option ℕ → Option FileState
running_since block stamp since = option_map (Recovering block stamp) since

abbrev pub running_recovery : Blocks → ℕ → Option FileState
running_recovery facts block = option_and_then (λ (own : BlockRecord). running_since block own.stamp own.recovering) (known_block facts block)

-- the states of files in which the block is recovered
abbrev pub recovery_in : ℕ → Option FileRow → List FileState
recovery_in block None = []
recovery_in block (Some file) = if state_recovers block file.state then file.state ∷ [] else []

abbrev pub recoveries_in : ℕ → List Row → List FileState
recoveries_in block rows = flat_map (λ row. recovery_in block row.file) rows

-- a block is in recovery where one file recovers it, and this since the same moment under the block's stamp; no other file recovers it
abbrev pub RecoveriesAreThoseOfFiles : Type 0
RecoveriesAreThoseOfFiles = (opening : Opening) (entries : List HistoryEntry) (block : ℕ) → IsLegal opening entries
    → recoveries_in block (rows_of opening entries) ≡ option_to_list (running_recovery (blocks_of opening entries) block)

abbrev pub OneFileRecovers : Type 0
OneFileRecovers = (opening : Opening) (entries : List HistoryEntry) (path : List (List ℕ)) (row : Row) (block : ℕ) → IsLegal opening entries
    → row_at path (rows_of opening entries) ≡ Some row → is_recovered block row.file ≡ true → recovers_nowhere_else path block (rows_of opening entries) ≡ true

-- a recovery that begins has a stamp that no block had at any time before: one whose stamp some block had ran before this entry too
abbrev pub RecoveriesHaveNewStamps : Type 0
RecoveriesHaveNewStamps = (opening : Opening) (entry : HistoryEntry) (later earlier : List HistoryEntry) (block other stamp since : ℕ) → IsLegal opening (entry ∷ (later ++ earlier))
    → newest_stamp (blocks_of opening earlier) other ≡ Some stamp → running_recovery (blocks_of opening (entry ∷ (later ++ earlier))) block ≡ Some (Recovering block stamp since)
    → running_recovery (blocks_of opening (later ++ earlier)) block ≡ Some (Recovering block stamp since)

-- a file that is in recovery recovers its last block, whose length isn't committed
abbrev pub RecoversLast : Option ℕ → FileState → Type 0
RecoversLast block Closed = ⊤
RecoversLast block (Open client) = ⊤
RecoversLast block (Recovering own stamp begun) = block ≡ Some own

abbrev pub FileRecoversLast : Option FileRow → Type 0
FileRecoversLast None = ⊤
FileRecoversLast (Some file) = RecoversLast (unfinished_block file.blocks) file.state

abbrev pub FilesRecoverLast : Type 0
FilesRecoverLast = (opening : Opening) (entries : List HistoryEntry) → IsLegal opening entries → AllByRecursion (λ (row : Row). FileRecoversLast row.file) (rows_of opening entries)

-- as many files as blocks are in a recovery that began longer ago than the retry limit
abbrev pub is_row_overdue : ℕ → ℕ → Row → Bool
is_row_overdue retry now row = is_some (sought_of (λ client. false) (λ begun. nat_lt retry (now - begun)) row.file)

abbrev pub OverdueFilesAreDue : Type 0
OverdueFilesAreDue = (opening : Opening) (entries : List HistoryEntry) (now : ℕ) → IsLegal opening entries
    → length (filter (is_row_overdue (blocks_of opening entries).retry now) (rows_of opening entries)) ≡ length (due_recoveries (blocks_of opening entries) now)
