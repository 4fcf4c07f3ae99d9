-- A core, by what it opened with and its entries, and what a step appends.
use Rattle.std.specs.Prelude.{◌≡◌, ℕ, ◌+◌, List, ◌∷◌, length}
use Rattle.hdfs_types.specs.declared.op.Request.{Request}
use Rattle.history.specs.declared.entry.HistoryEntry.{HistoryEntry}
use Rattle.history.specs.declared.entry.Answer.{Answer}
use Rattle.history.specs.Config.{Opening}
use Rattle.history.specs.LegalHistory.{verdict_of}

pub record NameCore : Type 0 where
  pub opening : Opening
  -- the newest first
  pub entries : List HistoryEntry

-- the entry of a request: it has the next place, and the verdict that the entries before it give
abbrev pub entry_for : NameCore → ℕ → ℕ → Request → HistoryEntry
entry_for core pass index request =
    record { place = length core.entries + 1; pass = pass; index = index; request = request; verdict = verdict_of core.opening core.entries request }

abbrev pub with_next_entry : NameCore → ℕ → ℕ → Request → NameCore
with_next_entry core pass index request = record { opening = core.opening; entries = entry_for core pass index request ∷ core.entries }

-- what is answered from an entry
abbrev pub answer_from : HistoryEntry → Answer
answer_from entry = record { place = entry.place; request = entry.request; verdict = entry.verdict }

-- one entry more, and the answer is that entry's
pub record Steps (old : NameCore) (pass index : ℕ) (request : Request) (answer : Answer) (new : NameCore) : Type 0 where
  pub new_is : new ≡ with_next_entry old pass index request
  pub answer_is : answer ≡ answer_from (entry_for old pass index request)

-- the verdict that a step would have, and as place the number of entries
abbrev pub Looks : NameCore → Request → Answer → Type 0
Looks core request answer = answer ≡ record { place = length core.entries; request = request; verdict = verdict_of core.opening core.entries request }
