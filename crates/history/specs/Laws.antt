-- Laws about histories, which follow from their definitions.
use Rattle.std.specs.Prelude.{◌≡◌, ℕ, Bool, true, false, ◌&&◌, List, ◌∷◌, Some, None}
use Rattle.std.specs.List.{list_any}
use Rattle.file_paths.specs.PathOrder.{same_path}
use Rattle.hdfs_types.specs.Request.{is_look}
use Rattle.hdfs_types.specs.declared.op.Op.TheVariants as op
use Rattle.hdfs_types.specs.declared.op.Request.{Request}
use Rattle.refusals.specs.declared.refusal.Refusal.TheVariants.{LeaseHeld}
use Rattle.namespace_rows.specs.declared.row.Row.{Row}
use Rattle.flat_rows.specs.declared.verdict.Verdict.TheVariants.{Refused}
use Rattle.flat_rows.specs.Verdicts.{is_done}
use Rattle.namespace_rows.specs.Rows.{row_at, file_above, is_directory}
use Rattle.namespace_rows.specs.Namespace.{IsNamespace}
use Rattle.namespace_rows.specs.Files.{is_open_by}
use Rattle.flat_rows.specs.FileOutcome.{holder_at}
use Rattle.flat_rows.specs.Decision.{decision}
use Rattle.history.specs.declared.entry.HistoryEntry.{HistoryEntry}
use Rattle.history.specs.Config.{Opening}
use Rattle.history.specs.ClockAndLease.{last_renewal}
use Rattle.history.specs.Keys.{ring_of}
use Rattle.history.specs.State.{blocks_of}
use Rattle.history.specs.Grants.{ledger_of}
use Rattle.history.specs.State.{users_of, rows_of, facts_of}
use Rattle.history.specs.LegalHistory.{now_at, verdict_of}

-- ---- one writer at a time

-- the client has open a file that has the path
abbrev pub writes : List (List ℕ) → List ℕ → List Row → Bool
writes path client rows = list_any (λ row. same_path path row.path && is_open_by client row) rows

-- of two clients who have a file open, each is the other
abbrev pub FilesHaveOneWriter : Type 0
FilesHaveOneWriter = (rows : List Row) (path : List (List ℕ)) (client other : List ℕ)
    → IsNamespace rows → writes path client rows ≡ true → writes path other rows ≡ true → client ≡ other

-- the same of what these entries give
abbrev pub HasOneWriter : Opening → List HistoryEntry → Type 0
HasOneWriter opening entries = (path : List (List ℕ)) (client other : List ℕ)
    → writes path client (rows_of opening entries) ≡ true → writes path other (rows_of opening entries) ≡ true → client ≡ other

-- an append to a file that a client has open whose lease is live isn't done, whoever asks for it
abbrev pub LiveWritersStay : Type 0
LiveWritersStay = (opening : Opening) (earlier : List HistoryEntry) (request : Request) (path : List (List ℕ)) (writer : List ℕ)
    → request.op ≡ op.Append path → holder_at (row_at path (rows_of opening earlier)) ≡ Some writer
    → (facts_of opening earlier (now_at earlier request)).leases.is_live writer ≡ true → is_done (verdict_of opening earlier request) ≡ false

-- and it names that client, where no need fails and the path is that of a file
abbrev pub LiveWritersAreNamed : Type 0
LiveWritersAreNamed = (opening : Opening) (earlier : List HistoryEntry) (request : Request) (path : List (List ℕ)) (row : Row) (writer : List ℕ)
    → request.op ≡ op.Append path → row_at path (rows_of opening earlier) ≡ Some row → is_directory row ≡ false → holder_at (Some row) ≡ Some writer
    → file_above path (rows_of opening earlier) ≡ None → decision (rows_of opening earlier) (users_of earlier) request.caller (op.Append path) ≡ None
    → (facts_of opening earlier (now_at earlier request)).leases.is_live writer ≡ true → verdict_of opening earlier request ≡ Refused (LeaseHeld writer)

-- ---- entries that change nothing but the clock

-- users, namespace, renewals, keys, blocks and nodes, and grants are as before the last entry
pub record IsSame (opening : Opening) (entry : HistoryEntry) (earlier : List HistoryEntry) : Type 0 where
  pub users : users_of (entry ∷ earlier) ≡ users_of earlier
  pub rows : rows_of opening (entry ∷ earlier) ≡ rows_of opening earlier
  pub renewals : (client : List ℕ) → last_renewal (entry ∷ earlier) client ≡ last_renewal earlier client
  pub keys : ring_of opening (entry ∷ earlier) ≡ ring_of opening earlier
  pub blocks : blocks_of opening (entry ∷ earlier) ≡ blocks_of opening earlier
  pub grants : ledger_of opening (entry ∷ earlier) ≡ ledger_of opening earlier

abbrev pub WhatIsNotDoneChangesNothing : Type 0
WhatIsNotDoneChangesNothing = (opening : Opening) (entry : HistoryEntry) (earlier : List HistoryEntry) → is_done entry.verdict ≡ false → IsSame opening entry earlier

abbrev pub LooksChangeNothing : Type 0
LooksChangeNothing = (opening : Opening) (entry : HistoryEntry) (earlier : List HistoryEntry) → is_look entry.request.op ≡ true → IsSame opening entry earlier
