-- What a script leaves that is recorded, beside what its lines so far leave.
use Rattle.std.specs.Prelude.{◌≡◌, ◌<◌, ◌≤◌, ℕ, List, length, take}
use Rattle.std.specs.List.{list_any}
use Rattle.history.specs.declared.entry.HistoryEntry.{HistoryEntry}
use Rattle.cluster_text.specs.ToldText.{is_bad_line}
use Rattle.cluster_runs.specs.Output.{State, behind_lines}
use Rattle.cluster_runs.specs.declared.recording.Recording.{Recording}

pub record Holds (state : State) (recording : Recording) : Type 0 where
  pub world : recording.world ≡ state.past
  pub bad : recording.has_bad ≡ list_any (λ numbered. is_bad_line numbered.answer) state.answers

-- of more lines, memory ran out in one: what those before it leave is held
pub record HoldsFirst (state : State) (lines : List (List ℕ)) (recording : Recording) : Type 0 where
  pub count : ℕ
  pub within : count < length lines
  pub world : recording.world ≡ (behind_lines state (take count lines)).past

-- the entries are the first ones of a history, both with the oldest first
pub record AreFirstOf (history entries : List HistoryEntry) : Type 0 where
  pub within : length entries ≤ length history
  pub are : entries ≡ take (length entries) history
