-- The looks that rest on so many entries, and what is found of them.
use Rattle.std.specs.Prelude.{◌≡◌, ◌+◌, ◌<◌, ◌==◌, ◌&&◌, ℕ, Bool, true, List, [], length, slice_get, slice_index_or, Option, Some, None}
use Rattle.std.specs.List.{list_any}
use Rattle.std.specs.Option.{ForSome}
use Rattle.hdfs_types.specs.Request.{is_look}
use Rattle.history.specs.declared.entry.HistoryEntry.{HistoryEntry}
use Rattle.history.specs.declared.entry.Answer.{Answer}
use Rattle.history.specs.Config.{Opening}
use Rattle.history.specs.LegalHistory.{verdict_of}
use Rattle.history_replay.specs.declared.pair.Pair.{Pair}
use Rattle.history_replay.specs.Agreement.{receipt_of, Legal, IsReceiptRight}

abbrev pub is_pair : ℕ → ℕ → Pair → Bool
is_pair pass index pair = pair.pass == pass && pair.index == index

-- the pair is listed for so many entries
abbrev pub lists : List (List Pair) → ℕ → ℕ → ℕ → Bool
lists looks place pass index = list_any (is_pair pass index) (slice_index_or looks place [])

abbrev pub KeepsLooks : List (List Pair) → List (List Pair) → Type 0
KeepsLooks old new = (place pass index : ℕ) → lists old place pass index ≡ true → lists new place pass index ≡ true

-- a look with so many receipts before it is listed where it rests on a place that has a list
abbrev pub HasLook : List (List Pair) → ℕ → List Answer → ℕ → Type 0
HasLook looks pass answers index = (answer : Answer) → slice_get answers index ≡ Some answer → is_look answer.request.op ≡ true → answer.place < length looks → lists looks answer.place pass index ≡ true

abbrev pub HasLooks : List (List Pair) → ℕ → List Answer → Type 0
HasLooks looks pass answers = (index : ℕ) → HasLook looks pass answers index

abbrev pub HasAllLooks : List (List Pair) → List (List Answer) → Type 0
HasAllLooks looks passes = (pass : ℕ) (answers : List Answer) → slice_get passes pass ≡ Some answers → HasLooks looks pass answers

-- ---- behind these entries, the newest first

-- the pair's receipt, if it is of a look that rests on all of them, has the verdict that the rules give
abbrev pub ToldHere : Opening → List HistoryEntry → List (List Answer) → ℕ → ℕ → Type 0
ToldHere opening entries passes pass index =
    ForSome (receipt_of passes pass index) (λ answer. is_look answer.request.op ≡ true → answer.place ≡ length entries → answer.verdict ≡ verdict_of opening entries answer.request)

abbrev pub FindsAmong : List Pair → (ℕ → ℕ → Type 0) → Option Pair → Type 0
FindsAmong pairs holds None = (pass index : ℕ) → list_any (is_pair pass index) pairs ≡ true → holds pass index
FindsAmong pairs holds (Some pair) = holds pair.pass pair.index → ⊥

-- the entry has its place and the verdict that the rules give
abbrev pub IsLegalBehind : Opening → List HistoryEntry → HistoryEntry → Type 0
IsLegalBehind opening entries entry = (entry.place ≡ length entries + 1) × (entry.verdict ≡ verdict_of opening entries entry.request)

-- what a replay tells of a pair
pub record Replayed (opening : Opening) (begun : ℕ) (history : List HistoryEntry) (passes : List (List Answer)) (pass index : ℕ) : Type 0 where
  pub legal : Legal opening begun history pass index
  pub told : IsReceiptRight opening history passes pass index
