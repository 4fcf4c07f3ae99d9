-- Which files a tick takes, where the clients are known whose leases are past the hard limit, and what it leaves of them.
use Rattle.std.specs.Prelude.{◌≡◌, ◌+◌, ◌-◌, ◌≤◌, ℕ, ⊤, Bool, true, false, not, if◌then◌else◌, List, [], ◌∷◌, map, filter, length, nat_lt, Option, Some, None}
use Rattle.std.specs.List.{AllByRecursion, list_any, filter_map}
use Rattle.std.specs.Option.{is_some, option_map}
use Rattle.std.specs.BTreeMap.{BTreeMap}
use Rattle.hdfs_values.specs.Text.{same}
use Rattle.file_states.specs.declared.state.FileState.{FileState}
use Rattle.file_states.specs.declared.state.FileState.TheVariants.{Closed, Recovering}
use Rattle.hdfs_types.specs.declared.reply.Expired.{Expired}
use Rattle.recovery_queue.specs.declared.begun.BegunRecovery.{BegunRecovery}
use Rattle.block_map.specs.BlockFacts.{Blocks, due_recoveries}
use Rattle.block_map.specs.BlockEffects.{recoveries_begun, with_recoveries_begun}
use Rattle.namespace_rows.specs.declared.file_row.FileRow.{FileRow}
use Rattle.namespace_rows.specs.declared.row.Row.{Row}
use Rattle.namespace_rows.specs.declared.row.Change.TheVariants as change
use Rattle.namespace_rows.specs.Files.{holder_of, with_state}
use Rattle.namespace_rows.specs.Rows.{row_at}
use Rattle.namespace_rows.specs.Changes.{file_edited, row_rewritten}
use Rattle.flat_rows.specs.FileOutcome.{holder_at}
use Rattle.flat_rows.specs.declared.takeover.Sought.{Sought}
use Rattle.flat_rows.specs.Takeover.{sought_of, taken_row}
use Rattle.lease_manager.specs.declared.writers.Writers.{Writers}
use Rattle.lease_manager.specs.Writers.{count_of}
use Rattle.file_effects.specs.Effected.{IsExact}
use Rattle.file_table.specs.Finished.{is_finished_of, finished_files}
use Rattle.file_takeovers.specs.Found.{file_in}

abbrev pub is_among : List (List ℕ) → List ℕ → Bool
is_among clients client = list_any (λ other. same other client) clients

-- the clients whose leases are past the hard limit, and the moment of the tick, with the retry limit
pub record Expiry : Type 0 where
  pub past : List (List ℕ)
  pub retry : ℕ
  pub now : ℕ

-- what a tick does with a file
abbrev pub sought_by : Expiry → Option FileRow → Option Sought
sought_by expiry file = sought_of (is_among expiry.past) (λ begun. nat_lt expiry.retry (expiry.now - begun)) file

abbrev pub sought_at : Expiry → Option Row → Option Sought
sought_at expiry at = sought_by expiry (file_in at)

-- the files that it takes, in the order of their paths
abbrev pub files_sought : Expiry → List Row → List Sought
files_sought expiry rows = filter_map (λ row. sought_by expiry row.file) rows

-- their blocks that are to be recovered
abbrev pub blocks_to_recover : List Sought → List ℕ
blocks_to_recover files = filter_map (λ (file : Sought). file.block) files

-- the same files with their paths
abbrev pub with_path : Row → Sought → List (List ℕ) × Sought
with_path row sought = (row.path, sought)

abbrev pub sought_entries : Expiry → List Row → List (List (List ℕ) × Sought)
sought_entries expiry rows = filter_map (λ row. option_map (with_path row) (sought_by expiry row.file)) rows

-- a map has some of them by their paths
abbrev pub AreSome : Expiry → List Row → BTreeMap (List (List ℕ)) Sought → Type 0
AreSome expiry rows files = AllByRecursion (λ (entry : List (List ℕ) × Sought). sought_at expiry (row_at entry.0 rows) ≡ Some entry.1) files.entries

-- all of them
abbrev pub AreAll : Expiry → List Row → BTreeMap (List (List ℕ)) Sought → Type 0
AreAll expiry rows files = files.entries ≡ sought_entries expiry rows

-- who has these files open
abbrev pub AreHeld : List Row → BTreeMap (List (List ℕ)) Sought → Type 0
AreHeld rows files = AllByRecursion (λ (entry : List (List ℕ) × Sought). holder_at (row_at entry.0 rows) ≡ entry.1.holder) files.entries

-- the files whose recovery is overdue are no more than the blocks whose recovery is
abbrev pub is_overdue_row : ℕ → ℕ → Row → Bool
is_overdue_row retry now row = is_some (sought_of (λ client. false) (λ begun. nat_lt retry (now - begun)) row.file)

abbrev pub AreDue : ℕ → List Row → Blocks → Type 0
AreDue now rows blocks = length (filter (is_overdue_row blocks.retry now) rows) ≤ length (due_recoveries blocks now)

-- a client of these has the file open, and its last block isn't unfinished
abbrev pub is_finished_among : List (List ℕ) → Option FileRow → Bool
is_finished_among clients file = list_any (λ client. is_finished_of client file) clients

abbrev pub closed_among : List (List ℕ) → Row → Row
closed_among clients row = if is_finished_among clients row.file then file_edited (with_state Closed) row else row

-- the rows with such files of these clients closed
abbrev pub finished_closed : List (List ℕ) → List Row → List Row
finished_closed clients rows = map (closed_among clients) rows

abbrev pub finished_of : List (List ℕ) → List Row → List Row
finished_of clients rows = filter (λ row. is_finished_among clients row.file) rows

-- each of these clients has at most so many of them
abbrev pub AreAtMost : List Row → List (List ℕ) → List ℕ → Type 0
AreAtMost rows [] numbers = ⊤
AreAtMost rows (client ∷ clients) [] = ⊥
AreAtMost rows (client ∷ clients) (number ∷ numbers) = (length (finished_files client rows) ≤ number) × AreAtMost rows clients numbers

-- each has at least so many
abbrev pub AreAtLeast : List Row → List (List ℕ) → List ℕ → Type 0
AreAtLeast rows [] numbers = ⊤
AreAtLeast rows (client ∷ clients) [] = ⊥
AreAtLeast rows (client ∷ clients) (number ∷ numbers) = (number ≤ length (finished_files client rows)) × AreAtLeast rows clients numbers

-- how many files these clients have open beside so many of each
abbrev pub open_beside : List (List ℕ × ℕ) → List (List ℕ) → List ℕ → ℕ
open_beside counts [] numbers = 0
open_beside counts (client ∷ clients) [] = count_of counts client + open_beside counts clients []
open_beside counts (client ∷ clients) (number ∷ numbers) = (count_of counts client - number) + open_beside counts clients numbers

-- each file of these is recovered
abbrev pub AreToRecover : BTreeMap (List (List ℕ)) Sought → Type 0
AreToRecover files = AllByRecursion (λ (entry : List (List ℕ) × Sought). is_some entry.1.block ≡ true) files.entries

-- the state that a tick gives a file, by the stamps under which recoveries begin
abbrev pub state_from : ℕ → ℕ → Option ℕ → Option FileState
state_from now block None = None
state_from now block (Some stamp) = Some (Recovering block stamp now)

abbrev pub state_behind : (ℕ → Option ℕ) → ℕ → Option ℕ → Option FileState
state_behind stamps now None = Some Closed
state_behind stamps now (Some block) = state_from now block (stamps block)

-- a file that it gives a state gets that
abbrev pub rewritten_where : List (List ℕ) → Option FileState → List Row → List Row
rewritten_where path None rows = rows
rewritten_where path (Some state) rows = row_rewritten path (change.State state) rows

-- nobody has a file open in this state
abbrev pub holder_in : Option FileState → Option (List ℕ)
holder_in None = None
holder_in (Some state) = holder_of state

-- the files that are closed
abbrev pub closed_of : List Sought → List Sought
closed_of files = filter (λ (file : Sought). not (is_some file.block)) files

-- each file is taken
abbrev pub all_taken : List BegunRecovery → Expiry → List Row → List Row
all_taken begun expiry rows = map (λ row. taken_row begun expiry.now (sought_by expiry row.file) row) rows

-- and it is still known of each client how many files it has open, and when it last renewed its lease
pub record AreTaken (begun : List BegunRecovery) (expiry : Expiry) (rows : List Row) (writers : Writers) (rows_left : List Row) (writers_left : Writers) : Type 0 where
  pub tree : rows_left ≡ all_taken begun expiry rows
  pub exact : (last : List ℕ → Option ℕ) → IsExact last rows writers → IsExact last rows_left writers_left

-- the recoveries begin that can, and that is told
pub record IsExpired (last : List ℕ → Option ℕ) (expiry : Expiry) (rows : List Row) (blocks : Blocks) (expired : Expired) (rows_left : List Row) (blocks_left : Blocks) (writers_left : Writers) : Type 0 where
  pub tree : rows_left ≡ all_taken (recoveries_begun blocks (blocks_to_recover (files_sought expiry rows)) expiry.now) expiry rows
  pub blocks_are : blocks_left ≡ with_recoveries_begun blocks (blocks_to_recover (files_sought expiry rows)) expiry.now
  pub told : expired ≡ record { closed = length (closed_of (files_sought expiry rows)); recovering = length (recoveries_begun blocks (blocks_to_recover (files_sought expiry rows)) expiry.now) }
  pub exact : IsExact last rows_left writers_left
