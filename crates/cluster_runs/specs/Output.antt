-- What a script of a cluster prints: the answer to each line that is neither empty nor a comment, behind the line's number. Each line makes
-- an event of the cluster that the lines before it leave, and is answered by what comes of that event.
use Rattle.std.specs.Prelude.{ℕ, ◌+◌, Bool, List, [], ◌∷◌, ◌++◌, length, take, replicate, slice_get, if◌then◌else◌, Option, Result, Ok, Err, fold}
use Rattle.std.specs.List.{flat_map, list_any}
use Rattle.std.specs.Option.{option_map}
use Rattle.hdfs_values.specs.declared.fault.IllFormed.{IllFormed}
use Rattle.flat_rows.specs.declared.verdict.Verdict.{Verdict}
use Rattle.grant_ledger.specs.declared.ledger.LedgerRow.{LedgerRow}
use Rattle.history.specs.declared.entry.HistoryEntry.{HistoryEntry}
use Rattle.history.specs.Config.{standard}
use Rattle.history.specs.Grants.{ledger_of}
use Rattle.cluster_trace.specs.Trace.{ClusterOpening, event_outcome}
use Rattle.cluster_trace.specs.declared.event.Event.{Event}
pub use Rattle.cluster_core.specs.Past.{World}
use Rattle.cluster_core.specs.World.{state_after, with_event}
use Rattle.script_words.specs.Words.{lines_of, without_return, is_skipped, words_of}
use Rattle.script_runs.specs.Status.{status_by}
use Rattle.script_runs.specs.declared.script.Status.{Status}
use Rattle.cluster_text.specs.EventLine.{event_of}
use Rattle.cluster_text.specs.ToldText.{Told, answer_line, is_bad_line}

-- what the cluster of a script opens with: a NameNode with this project's limits and a key of twenty bytes 11, and the
-- DataNodes 1 to 8
abbrev pub script_opening : ClusterOpening
script_opening = record { name = record { config = standard; key = replicate 20 11 }; nodes = 1 ∷ 2 ∷ 3 ∷ 4 ∷ 5 ∷ 6 ∷ 7 ∷ 8 ∷ [] }

abbrev pub no_events : World
no_events = record { opening = script_opening; events = [] }

-- an answer behind the number of its line
pub record Numbered : Type 0 where
  pub number : ℕ
  pub answer : Result Told IllFormed

-- the lines so far: how many, the events that they make, and their answers
pub record State : Type 0 where
  pub number : ℕ
  pub past : World
  pub answers : List Numbered

-- ---- one line

-- the tokens that were granted, the oldest first
abbrev pub ledger_after : World → List LedgerRow
ledger_after past = ledger_of past.opening.name (state_after past).entries

-- the verdict of the newest entry of the NameNode's history
abbrev pub newest_verdict : World → Option Verdict
newest_verdict past = option_map (λ (entry : HistoryEntry). entry.verdict) (slice_get (state_after past).entries 0)

-- what comes of an event, with what its text needs beside
abbrev pub told_behind : World → Event → Told
told_behind past event = record { outcome = event_outcome (state_after past) event; rows = length (ledger_after past); newest = newest_verdict (with_event past event) }

-- the answer to a line, and the events after it
pub record Answered : Type 0 where
  pub answer : Result Told IllFormed
  pub past : World

-- an ill-formed line makes none
abbrev pub line_answered : World → Result Event IllFormed → Answered
line_answered past (Err fault) = record { answer = Err fault; past = past }
line_answered past (Ok event) = record { answer = Ok (told_behind past event); past = with_event past event }

-- the event is formed from the line and from what the lines before leave
abbrev pub event_in : World → List ℕ → Result Event IllFormed
event_in past line = event_of (ledger_after past) (words_of line)

abbrev pub after_answer : State → Answered → State
after_answer state a = record {
  number = state.number + 1;
  past = a.past;
  answers = state.answers ++ record { number = state.number + 1; answer = a.answer } ∷ [];
}

abbrev pub after_trimmed : State → List ℕ → State
after_trimmed state line =
    if is_skipped line then record state { number = state.number + 1 }
    else after_answer state (line_answered state.past (event_in state.past line))

abbrev pub after_line : State → List ℕ → State
after_line state line = after_trimmed state (without_return line)

-- ---- all lines

abbrev pub no_lines : State
no_lines = record { number = 0; past = no_events; answers = [] }

-- what more lines leave behind those before
abbrev pub behind_lines : State → List (List ℕ) → State
behind_lines state lines = fold after_line state lines

abbrev pub after_lines : List (List ℕ) → State
after_lines lines = fold after_line no_lines lines

-- the answers to the lines of a script, and to its first lines alone
abbrev pub answers_of : List ℕ → List Numbered
answers_of script = (after_lines (lines_of script)).answers

abbrev pub answers_of_first : ℕ → List ℕ → List Numbered
answers_of_first count script = (after_lines (take count (lines_of script))).answers

abbrev pub text_of : List Numbered → List ℕ
text_of answers = flat_map (λ numbered. answer_line numbered.number numbered.answer) answers

-- how a script ends: with an ill-formed line, or with none
abbrev pub script_status : List Numbered → Status
script_status answers = status_by (list_any (λ numbered. is_bad_line numbered.answer) answers)

-- what a script prints
abbrev pub output_of : List ℕ → List ℕ
output_of script = text_of (answers_of script)
