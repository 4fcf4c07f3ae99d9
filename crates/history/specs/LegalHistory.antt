-- A legal history: each entry has its place, and the verdict that the entries before it give.
use Rattle.std.specs.Prelude.{◌≡◌, ℕ, ◌+◌, max, List, [], ◌∷◌, length}
use Rattle.std.specs.Bool.{⊤}
use Rattle.hdfs_types.specs.declared.op.Request.{Request}
use Rattle.flat_rows.specs.declared.verdict.Verdict.{Verdict}
use Rattle.flat_rows.specs.Outcome.{step}
use Rattle.history.specs.declared.entry.HistoryEntry.{HistoryEntry}
use Rattle.history.specs.Config.{Opening}
use Rattle.history.specs.ClockAndLease.{clock_of}
use Rattle.history.specs.State.{users_of, rows_of, facts_of}

-- the clock once the moment of a request is taken in
abbrev pub now_at : List HistoryEntry → Request → ℕ
now_at earlier request = max (clock_of earlier) request.moment

-- the verdict on a request behind these entries
abbrev pub verdict_of : Opening → List HistoryEntry → Request → Verdict
verdict_of opening earlier request =
    (step (facts_of opening earlier (now_at earlier request)) (rows_of opening earlier) (users_of earlier) request.caller request.op).verdict

abbrev pub IsLegal : Opening → List HistoryEntry → Type 0
IsLegal opening [] = ⊤
IsLegal opening (entry ∷ earlier) = (entry.place ≡ length earlier + 1) × (entry.verdict ≡ verdict_of opening earlier entry.request) × IsLegal opening earlier
