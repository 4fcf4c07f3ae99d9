-- What a replay tells.
use Rattle.std.specs.Prelude.{◌≡◌, ◌≤◌, ℕ, true, List, Some, slice_get}
use Rattle.hdfs_types.specs.Request.{is_look}
use Rattle.history.specs.declared.entry.HistoryEntry.{HistoryEntry}
use Rattle.history.specs.declared.entry.Answer.{Answer}
use Rattle.history.specs.Config.{Opening}
use Rattle.history.specs.LegalHistory.{verdict_of}
use Rattle.history_replay.specs.Agreement.{receipt_of, given_by, IsLegalAt}

-- the entry behind so many others is legal, unless it was there when the passes began
abbrev pub LegalFrom : Opening → ℕ → List HistoryEntry → ℕ → Type 0
LegalFrom opening begun history before = (entry : HistoryEntry) → begun ≤ before → slice_get history before ≡ Some entry → IsLegalAt opening history before entry

-- all looks that rest on so many entries have the verdicts that the rules give
abbrev pub TellsAt : Opening → List HistoryEntry → List (List Answer) → ℕ → Type 0
TellsAt opening history passes place = (pass index : ℕ) (answer : Answer) → receipt_of passes pass index ≡ Some answer → is_look answer.request.op ≡ true → answer.place ≡ place
    → answer.verdict ≡ verdict_of opening (given_by opening history place) answer.request
