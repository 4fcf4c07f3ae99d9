-- Whether a history and the answers that callers kept of it agree.
-- (This project's own rule: what a NameNode did can be judged afterwards, from its history and from what its callers were told.)
use Rattle.std.specs.Prelude.{◌≡◌, ◌≤◌, ◌<◌, ℕ, ◌+◌, true, false, zero, suc, List, [], ◌∷◌, length, take, reverse, slice_get, Option, Some, None}
use Rattle.std.specs.Option.{option_and_then, option_map_or, ForSome, IsSomeAnd}
use Rattle.hdfs_types.specs.Request.{is_look}
use Rattle.history.specs.declared.entry.HistoryEntry.{HistoryEntry}
use Rattle.history.specs.declared.entry.Answer.{Answer}
use Rattle.history.specs.Config.{Opening}
use Rattle.history.specs.LegalHistory.{verdict_of}
use Rattle.history_replay.specs.declared.pair.Pair.{Pair}

-- what is handed in: what a NameNode opened with, the entries that its history had when the passes began, its history, and for each pass
-- the answers that were kept; each list the oldest first
pub record Claims : Type 0 where
  pub opening : Opening
  pub begun : List HistoryEntry
  pub history : List HistoryEntry
  pub passes : List (List Answer)

-- ---- what the requests alone give

-- the history that the requests of these entries give by the rules, whatever verdicts and places the entries state; the newest first
abbrev pub replayed_history : Opening → List HistoryEntry → List HistoryEntry
replayed_history opening [] = []
replayed_history opening (entry ∷ earlier) =
    record { place = length (replayed_history opening earlier) + 1; pass = entry.pass; index = entry.index; request = entry.request; verdict = verdict_of opening (replayed_history opening earlier) entry.request } ∷ replayed_history opening earlier

-- what the requests of so many entries at the front give
abbrev pub given_by : Opening → List HistoryEntry → ℕ → List HistoryEntry
given_by opening history count = replayed_history opening (reverse (take count history))

-- ---- one receipt: a kept answer, by the number of its pass and the number of those before it in its pass

abbrev pub receipt_of : List (List Answer) → ℕ → ℕ → Option Answer
receipt_of passes pass index = option_and_then (λ answers. slice_get answers index) (slice_get passes pass)

-- the place of the receipt before it; for a first one, the number of entries when the passes began
abbrev pub bound_of : ℕ → List Answer → ℕ → ℕ
bound_of begun answers zero = begun
bound_of begun answers (suc before) = option_map_or (λ answer. answer.place) (slice_get answers before) begun

-- places are counted from 1
abbrev pub entry_at_place : List HistoryEntry → ℕ → Option HistoryEntry
entry_at_place history zero = None
entry_at_place history (suc before) = slice_get history before

-- the entry has the receipt's pass, index, request and verdict
pub record MatchesReceipt (pass index : ℕ) (answer : Answer) (entry : HistoryEntry) : Type 0 where
  pub pass_is : entry.pass ≡ pass
  pub index_is : entry.index ≡ index
  pub request_is : entry.request ≡ answer.request
  pub verdict_is : entry.verdict ≡ answer.verdict

-- a receipt of a changing request stands behind its bound, where the entry at its place gives it
abbrev pub ChangeStands : List HistoryEntry → ℕ → ℕ → ℕ → Answer → Type 0
ChangeStands history bound pass index answer = (bound < answer.place) × IsSomeAnd (entry_at_place history answer.place) (MatchesReceipt pass index answer)

-- a look's receipt rests on an entry of the history, and on none before its bound
abbrev pub LookRests : List HistoryEntry → ℕ → Answer → Type 0
LookRests history bound answer = (bound ≤ answer.place) × (answer.place ≤ length history)

pub record IsPlaced (history : List HistoryEntry) (bound pass index : ℕ) (answer : Answer) : Type 0 where
  pub change : is_look answer.request.op ≡ false → ChangeStands history bound pass index answer
  pub look : is_look answer.request.op ≡ true → LookRests history bound answer

-- a look's verdict is the one that the rules give behind the entries that it rests on
abbrev pub IsLookRight : Opening → List HistoryEntry → Answer → Type 0
IsLookRight opening history answer =
    is_look answer.request.op ≡ true → answer.place ≤ length history → answer.verdict ≡ verdict_of opening (given_by opening history answer.place) answer.request

-- ---- one entry, by the number of those before it

abbrev pub Names : ℕ → ℕ → HistoryEntry → Type 0
Names pass index entry = (entry.pass ≡ pass) × (entry.index ≡ index)

-- the receipt that the entry names is of a changing request, and has the entry's place
abbrev pub IsReceived : List (List Answer) → ℕ → HistoryEntry → Type 0
IsReceived passes before entry = IsSomeAnd (receipt_of passes entry.pass entry.index) (λ answer. (is_look answer.request.op ≡ false) × (answer.place ≡ before + 1))

-- it has its place, and the verdict that the rules give behind the requests before it
abbrev pub IsLegalAt : Opening → List HistoryEntry → ℕ → HistoryEntry → Type 0
IsLegalAt opening history before entry = (entry.place ≡ before + 1) × (entry.verdict ≡ verdict_of opening (given_by opening history before) entry.request)

-- ---- one pair of a pass and an index

-- its receipt has a place where it can stand, if there is one
abbrev pub Placed : ℕ → List HistoryEntry → List (List Answer) → ℕ → ℕ → Type 0
Placed begun history passes pass index = (answers : List Answer) (answer : Answer)
    → slice_get passes pass ≡ Some answers → slice_get answers index ≡ Some answer → IsPlaced history (bound_of begun answers index) pass index answer

abbrev pub IsReceiptRight : Opening → List HistoryEntry → List (List Answer) → ℕ → ℕ → Type 0
IsReceiptRight opening history passes pass index = ForSome (receipt_of passes pass index) (IsLookRight opening history)

-- each entry since the passes began that names it has its receipt
abbrev pub Received : ℕ → List HistoryEntry → List (List Answer) → ℕ → ℕ → Type 0
Received begun history passes pass index = (before : ℕ) (entry : HistoryEntry)
    → begun ≤ before → slice_get history before ≡ Some entry → Names pass index entry → IsReceived passes before entry

-- and is legal
abbrev pub Legal : Opening → ℕ → List HistoryEntry → ℕ → ℕ → Type 0
Legal opening begun history pass index = (before : ℕ) (entry : HistoryEntry)
    → begun ≤ before → slice_get history before ≡ Some entry → Names pass index entry → IsLegalAt opening history before entry

-- each entry from before that names it still stands in the history
abbrev pub Opened : List HistoryEntry → List HistoryEntry → ℕ → ℕ → Type 0
Opened begun history pass index = (before : ℕ) (entry : HistoryEntry) → slice_get begun before ≡ Some entry → Names pass index entry → slice_get history before ≡ Some entry

pub record Agrees (claims : Claims) (pass index : ℕ) : Type 0 where
  pub placed : Placed (length claims.begun) claims.history claims.passes pass index
  pub told : IsReceiptRight claims.opening claims.history claims.passes pass index
  pub received : Received (length claims.begun) claims.history claims.passes pass index
  pub legal : Legal claims.opening (length claims.begun) claims.history pass index
  pub opened : Opened claims.begun claims.history pass index

-- ---- a search for a pair of which something doesn't hold

-- it finds none only where all pairs have it, and otherwise one that doesn't
abbrev pub Finds : (ℕ → ℕ → Type 0) → Option Pair → Type 0
Finds holds None = (pass index : ℕ) → holds pass index
Finds holds (Some pair) = holds pair.pass pair.index → ⊥
