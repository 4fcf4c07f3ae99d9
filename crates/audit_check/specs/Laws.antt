-- Laws of histories that are checked.
use Rattle.std.specs.Prelude.{◌≡◌, ◌<◌, ◌≤◌, ◌+◌, ℕ, false, List, length, take, reverse, slice_get, Some}
use Rattle.std.specs.Option.{IsSomeAnd}
use Rattle.hdfs_types.specs.Request.{is_look}
use Rattle.history.specs.declared.entry.HistoryEntry.{HistoryEntry}
use Rattle.history.specs.declared.entry.Answer.{Answer}
use Rattle.history.specs.Config.{Opening}
use Rattle.history.specs.LegalHistory.{IsLegal}
use Rattle.history_replay.specs.Agreement.{Claims, Agrees, IsLegalAt, MatchesReceipt, entry_at_place, receipt_of}

-- a history is legal where each of its entries is, by the requests before it alone
abbrev pub LegalEntriesMakeALegalHistory : Type 0
LegalEntriesMakeALegalHistory = (opening : Opening) (history : List HistoryEntry)
    → ((before : ℕ) (entry : HistoryEntry) → slice_get history before ≡ Some entry → IsLegalAt opening history before entry)
    → IsLegal opening (reverse history)

-- a history that agrees with all answers that were kept is legal, where the entries from before the passes are
abbrev pub WhatAgreesIsLegal : Type 0
WhatAgreesIsLegal = (claims : Claims) → ((pass index : ℕ) → Agrees claims pass index) → IsLegal claims.opening (reverse claims.begun) → IsLegal claims.opening (reverse claims.history)

-- and it begins with these
abbrev pub WhatAgreesGoesOnFromTheOpening : Type 0
WhatAgreesGoesOnFromTheOpening = (claims : Claims) → ((pass index : ℕ) → Agrees claims pass index) → take (length claims.begun) claims.history ≡ claims.begun

-- ---- the changes that were told are the entries since the passes began

abbrev pub AllAgree : Claims → Type 0
AllAgree claims = (pass index : ℕ) → Agrees claims pass index

-- nothing was invented: each of these entries was told, with its place, to who asked for the change
abbrev pub EntriesWereTold : Type 0
EntriesWereTold = (claims : Claims) (before : ℕ) (entry : HistoryEntry) → AllAgree claims → length claims.begun ≤ before → slice_get claims.history before ≡ Some entry
    → IsSomeAnd (receipt_of claims.passes entry.pass entry.index) (λ answer. (is_look answer.request.op ≡ false) × (answer.place ≡ before + 1))

-- no two of these entries have one receipt
abbrev pub EntriesHaveReceiptsOfTheirOwn : Type 0
EntriesHaveReceiptsOfTheirOwn = (claims : Claims) (one other : ℕ) (entry another : HistoryEntry)
    → AllAgree claims → length claims.begun ≤ one → length claims.begun ≤ other → slice_get claims.history one ≡ Some entry → slice_get claims.history other ≡ Some another
    → entry.pass ≡ another.pass → entry.index ≡ another.index → one ≡ other

-- nothing was lost: each change that was told has an entry since the passes began, with its pass, index, request and verdict
abbrev pub ChangesAreEntries : Type 0
ChangesAreEntries = (claims : Claims) (pass index : ℕ) (answer : Answer) → AllAgree claims → receipt_of claims.passes pass index ≡ Some answer → is_look answer.request.op ≡ false
    → (length claims.begun < answer.place) × IsSomeAnd (entry_at_place claims.history answer.place) (MatchesReceipt pass index answer)

-- no two changes that were told have one entry
abbrev pub ChangesHaveEntriesOfTheirOwn : Type 0
ChangesHaveEntriesOfTheirOwn = (claims : Claims) (pass index other_pass other_index : ℕ) (answer another : Answer)
    → AllAgree claims → receipt_of claims.passes pass index ≡ Some answer → receipt_of claims.passes other_pass other_index ≡ Some another
    → is_look answer.request.op ≡ false → is_look another.request.op ≡ false → answer.place ≡ another.place → (pass ≡ other_pass) × (index ≡ other_index)
