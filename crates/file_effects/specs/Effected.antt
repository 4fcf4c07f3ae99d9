-- What an operation that nothing refuses leaves of the namespace, and of the clients who have files open.
use Rattle.std.specs.Prelude.{◌≡◌, ℕ, ◌+◌, Bool, ◌&&◌, List, length, if◌then◌else◌, Option, Some, None}
use Rattle.hdfs_values.specs.Text.{same}
use Rattle.hdfs_types.specs.declared.op.Op.{Op}
use Rattle.hdfs_types.specs.declared.op.Op.TheVariants.{Complete}
use Rattle.refusals.specs.declared.refusal.Refusal.{Refusal}
use Rattle.block_map.specs.BlockFacts.{Blocks}
use Rattle.flat_rows.specs.BlockOutcome.{refused_end}
use Rattle.lease_manager.specs.Leases.{latest_moment, renewals_with}
use Rattle.principals.specs.Users.{Users}
use Rattle.namespace_rows.specs.declared.row.Row.{Row}
use Rattle.flat_rows.specs.declared.verdict.Verdict.TheVariants.{Done}
use Rattle.namespace_rows.specs.Rows.{ancestor}
use Rattle.namespace_rows.specs.Files.{new_file, open_files}
use Rattle.flat_rows.specs.Facts.{Facts}
use Rattle.flat_rows.specs.Outcome.{first_refusal, reply_of, rows_after, with_new}
use Rattle.history.specs.ClockAndLease.{renews}
use Rattle.lease_manager.specs.declared.writers.Writers.{Writers}
use Rattle.lease_manager.specs.Writers.{count_of, IsLeased}

-- it is known of each client how many files it has open, and when it last renewed its lease
pub record IsExact (last : List ℕ → Option ℕ) (rows : List Row) (writers : Writers) : Type 0 where
  pub files : (client : List ℕ) → count_of writers.files client ≡ length (open_files client rows)
  pub leased : IsLeased last writers

-- last renewals behind a request: the caller has renewed, or nobody
abbrev pub renewed_where : Bool → List ℕ → ℕ → (List ℕ → Option ℕ) → List ℕ → Option ℕ
renewed_where renewals_with caller now last client = if renewals_with && same caller client then Some now else last client

-- a new file is made that the caller has open, who has renewed its lease
pub record IsCreated (path : List (List ℕ)) (mode replication : ℕ) (caller : List ℕ) (now : ℕ) (rows : List Row) (writers : Writers) (rows_left : List Row) (writers_left : Writers) : Type 0 where
  pub tree : rows_left ≡ with_new path mode (Some (new_file replication caller)) caller (ancestor path rows) rows
  pub files : (other : List ℕ) → count_of writers_left.files other ≡ (if same caller other then count_of writers.files caller + 1 else count_of writers.files other)
  pub renewals : writers_left.leases.renewals ≡ renewals_with caller now writers.leases.renewals
  pub latest : latest_moment writers_left.leases.renewals ≡ now

-- nothing refuses the operation
abbrev pub IsFree : Op → List ℕ → List Row → Users → Type 0
IsFree op caller rows users = (facts : Facts) × (first_refusal facts caller op rows users ≡ None)

-- what the map of blocks refuses: the end of a file, until a DataNode has reported its last block
abbrev pub refused_end_of : Op → Blocks → Option Refusal
refused_end_of (Complete path last) blocks = refused_end blocks last
refused_end_of _ blocks = None

-- what an operation leaves that nothing refuses
pub record IsEffected (op : Op) (caller : List ℕ) (now : ℕ) (rows : List Row) (writers : Writers) (rows_left : List Row) (writers_left : Writers) : Type 0 where
  pub tree : (facts : Facts) → rows_left ≡ rows_after facts op caller rows
  pub exact : (facts : Facts) (last : List ℕ → Option ℕ) → IsExact last rows writers → IsExact (renewed_where (renews op (Done (reply_of facts caller op rows))) caller now last) rows_left writers_left
