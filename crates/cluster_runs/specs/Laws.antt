-- What scripts are answered is what running their events gives; and what is known of these.
use Rattle.std.specs.Prelude.{◌≡◌, ℕ, List, [], reverse, Option, Some, None, Result, Ok, Err}
use Rattle.std.specs.List.{filter_map}
use Rattle.hdfs_values.specs.declared.fault.IllFormed.{IllFormed}
use Rattle.cluster_trace.specs.declared.event.Event.{Event}
use Rattle.cluster_trace.specs.declared.outcome.Outcome.{Outcome}
use Rattle.cluster_trace.specs.Provenance.{AllRight}
use Rattle.cluster_trace.specs.Typed.{AreTyped}
use Rattle.cluster_core.specs.World.{run_past, run_outcomes}
use Rattle.script_words.specs.Words.{lines_of}
use Rattle.cluster_text.specs.ToldText.{Told}
use Rattle.cluster_runs.specs.Output.{State, Numbered, no_events, after_lines}

-- the events that lines make, the oldest first
abbrev pub events_in : List (List ℕ) → List Event
events_in lines = reverse (after_lines lines).past.events

abbrev pub outcome_told : Result Told IllFormed → Option Outcome
outcome_told (Ok told) = Some told.outcome
outcome_told (Err fault) = None

-- what came of them, by the answers to lines that aren't ill-formed
abbrev pub outcomes_told : List Numbered → List Outcome
outcomes_told answers = filter_map (λ (numbered : Numbered). outcome_told numbered.answer) answers

-- for any lines: what they are answered is what comes of their events, one after another, in a cluster in which nothing has happened, and
-- what they leave of it is what those leave
pub record IsRun (lines : List (List ℕ)) : Type 0 where
  pub outcomes : outcomes_told (after_lines lines).answers ≡ run_outcomes no_events (events_in lines)
  pub past : (after_lines lines).past ≡ run_past no_events (events_in lines)

abbrev pub ScriptsAreRuns : Type 0
ScriptsAreRuns = (lines : List (List ℕ)) → IsRun lines

-- what is known of the events of a script that was run
pub record IsAnsweredRightly (script : List ℕ) : Type 0 where
  -- every request was answered by the written rules on the entries before it, and every call of a DataNode that presented a token and was
  -- served, presented one that the NameNode had granted for it, or a forged one
  pub right : AllRight (after_lines (lines_of script)).past.opening (after_lines (lines_of script)).past.events
  -- the answers are what comes of the events of its lines, one after another
  pub runs : IsRun (lines_of script)
  -- all values fit their types, so that the laws about clusters hold
  pub typed : AreTyped (after_lines (lines_of script)).past.opening (after_lines (lines_of script)).past.events
