-- The clock and the leases that a history gives. A history is a list of entries, the newest first, so each question is asked of
-- the last entry first.
-- (HDFS Architecture, the single-writer model; that a client is a user is this project's choice.)
use Rattle.std.specs.Prelude.{ℕ, Bool, true, false, ◌&&◌, max, List, [], ◌∷◌, if◌then◌else◌, Option, Some, None}
use Rattle.std.specs.Option.{option_map}
use Rattle.hdfs_values.specs.Text.{same}
use Rattle.hdfs_types.specs.declared.op.Op.{Op}
use Rattle.hdfs_types.specs.declared.op.Op.TheVariants as op
use Rattle.hdfs_types.specs.declared.reply.Reply.{Reply}
use Rattle.hdfs_types.specs.declared.reply.Reply.TheVariants as reply
use Rattle.namespace_rows.specs.declared.row.Row.{Row}
use Rattle.flat_rows.specs.declared.verdict.Verdict.{Verdict}
use Rattle.flat_rows.specs.declared.verdict.Verdict.TheVariants.{Done, Denied, Refused}
use Rattle.namespace_rows.specs.Files.{has_open_file}
use Rattle.flat_rows.specs.FileOutcome.{LeaseFacts}
use Rattle.lease_manager.specs.Leases.{Limits, lease_state}
use Rattle.lease_manager.specs.declared.leases.LeaseState.{LeaseState}
use Rattle.lease_manager.specs.declared.leases.LeaseState.TheVariants.{Live, PastSoft, PastHard}
use Rattle.history.specs.declared.entry.HistoryEntry.{HistoryEntry}

-- the greatest moment of the entries, 0 where there are none
abbrev pub clock_of : List HistoryEntry → ℕ
clock_of [] = 0
clock_of (entry ∷ earlier) = max (clock_of earlier) entry.request.moment

-- ---- when a client renewed its lease

-- an append that is done has opened the file, or has released it from another client
abbrev pub has_opened : Reply → Bool
has_opened reply.Empty = true
has_opened _ = false

-- an operation that renews its caller's lease where it is done
abbrev pub renews_done : Op → Reply → Bool
renews_done (op.Create path mode replication over) told = true
renews_done (op.Append path) told = has_opened told
renews_done op.Renew told = true
renews_done _ told = false

abbrev pub renews : Op → Verdict → Bool
renews op (Done told) = renews_done op told
renews op (Denied denial) = false
renews op (Refused refusal) = false

-- the clock at a client's last create, renewal, or append that opened the file
abbrev pub last_renewal : List HistoryEntry → List ℕ → Option ℕ
last_renewal [] client = None
last_renewal (entry ∷ earlier) client =
    if renews entry.request.op entry.verdict && same entry.request.caller client then Some (clock_of (entry ∷ earlier)) else last_renewal earlier client

-- ---- how the lease of a client stands

-- a client has a lease where it has some file open: the moment of its last renewal
abbrev pub lease_in : (List ℕ → Option ℕ) → List Row → List ℕ → Option ℕ
lease_in renewal rows client = if has_open_file client rows then renewal client else None

abbrev pub is_lease_live : Option LeaseState → Bool
is_lease_live None = false
is_lease_live (Some Live) = true
is_lease_live (Some PastSoft) = false
is_lease_live (Some PastHard) = false

abbrev pub is_past_hard : Option LeaseState → Bool
is_past_hard None = false
is_past_hard (Some Live) = false
is_past_hard (Some PastSoft) = false
is_past_hard (Some PastHard) = true

-- by its age
abbrev pub state_at : Limits → ℕ → Option ℕ → Option LeaseState
state_at limits now renewal = option_map (λ last. lease_state limits last now) renewal

-- what an operation asks of leases, each given by its last renewal
abbrev pub facts_at : Limits → ℕ → (List ℕ → Option ℕ) → LeaseFacts
facts_at limits now lease = record { is_live = λ client. is_lease_live (state_at limits now (lease client)); is_past_hard = λ client. is_past_hard (state_at limits now (lease client)) }
