-- How events are kept beside the NameNode's history, which has the oldest entry first here.
use Rattle.std.specs.Prelude.{◌≡◌, ◌<◌, ◌≤◌, ◌+◌, ◌-◌, ℕ, List, [], ◌∷◌, ◌++◌, length, map, take, drop}
use Rattle.std.specs.Bool.{⊤}
use Rattle.std.specs.List.{AllByRecursion, flat_map}
use Rattle.history.specs.declared.entry.HistoryEntry.{HistoryEntry}
use Rattle.cluster_trace.specs.declared.event.Event.{Event}
use Rattle.cluster_trace.specs.declared.event.Event.TheVariants.{Name, Deliver, Data}
use Rattle.cluster_parts.specs.declared.kept.KeptEvents.{KeptEvents}
use Rattle.cluster_parts.specs.declared.kept.KeptEvents.TheVariants.{Asked, Refused, Delivered, Called}

-- the entries that they name stand in the history
abbrev pub IsWithin : List HistoryEntry → KeptEvents → Type 0
IsWithin history (Asked first last) = (first ≤ last) × (last < length history)
IsWithin history (Refused request) = ⊤
IsWithin history (Delivered number now) = ⊤
IsWithin history (Called node now call) = ⊤

abbrev pub AreWithin : List HistoryEntry → List KeptEvents → Type 0
AreWithin history kept = AllByRecursion (IsWithin history) kept

-- the entries from one index to another
abbrev pub entries_between : List HistoryEntry → ℕ → ℕ → List HistoryEntry
entries_between history first last = take (last + 1 - first) (drop first history)

-- what asked for these entries
abbrev pub asked_for : List HistoryEntry → List Event
asked_for entries = map (λ entry. Name entry.request) entries

abbrev pub events_of : List HistoryEntry → KeptEvents → List Event
events_of history (Asked first last) = asked_for (entries_between history first last)
events_of history (Refused request) = Name request.value ∷ []
events_of history (Delivered number now) = Deliver number now ∷ []
events_of history (Called node now call) = Data node now call ∷ []

-- all that are kept, the oldest first
abbrev pub events_kept : List HistoryEntry → List KeptEvents → List Event
events_kept history kept = flat_map (events_of history) kept

-- beside another history one event more is kept
pub record IsOneMore (history : List HistoryEntry) (kept : List KeptEvents) (event : Event) (history_left : List HistoryEntry) (kept_left : List KeptEvents) : Type 0 where
  pub within : AreWithin history_left kept_left
  pub is : events_kept history_left kept_left ≡ events_kept history kept ++ event ∷ []
