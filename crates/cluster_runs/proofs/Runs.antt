-- What scripts are answered, and what running their events gives.
use Rattle.std.proofs.Common.{◌≡◌, ℕ, ◌+◌, Bool, true, false, List, [], ◌∷◌, ◌++◌, reverse, Result, Ok, Err, refl, sym, ap, ◌∙◌, append-nil}
use Rattle.std.specs.Prelude.{if◌then◌else◌}
use Rattle.std.specs.List.{fold}
use Rattle.std.proofs.lemmas.List.{reverse-append}
use Rattle.std.proofs.lemmas.List.Elements.{filter_map-append}
use Rattle.hdfs_values.specs.declared.fault.IllFormed.{IllFormed}
use Rattle.script_words.specs.Words.{is_skipped, without_return}
use Rattle.cluster_trace.specs.Trace.{event_outcome}
use Rattle.cluster_trace.specs.declared.event.Event.{Event}
use Rattle.cluster_trace.specs.declared.outcome.Outcome.{Outcome}
use Rattle.cluster_core.specs.Past.{World}
use Rattle.cluster_core.specs.World.{state_after, with_event, run_past, run_outcomes}
use Rattle.cluster_runs.specs.Output.{State, Numbered, no_events, no_lines, told_behind, line_answered, event_in, after_answer, after_line}
use Rattle.cluster_runs.specs.Laws.{outcome_told, outcomes_told, ScriptsAreRuns}

-- ---- the last of several events

past_last : (past : World) (events : List Event) (event : Event) → run_past past (events ++ event ∷ []) ≡ with_event (run_past past events) event
past_last past [] event = refl
past_last past (first ∷ events) event = past_last (with_event past first) events event

outcomes_last : (past : World) (events : List Event) (event : Event)
    → run_outcomes past (events ++ event ∷ []) ≡ run_outcomes past events ++ event_outcome (state_after (run_past past events)) event ∷ []
outcomes_last past [] event = refl
outcomes_last past (first ∷ events) event = ap (λ rest. event_outcome (state_after past) first ∷ rest) (outcomes_last (with_event past first) events event)

-- ---- one line more

record Runs (state : State) : Type 0 where
  outcomes : outcomes_told state.answers ≡ run_outcomes no_events (reverse state.past.events)
  past : state.past ≡ run_past no_events (reverse state.past.events)

runs_answer : (state : State) (said : Result Event IllFormed) → Runs state → Runs (after_answer state (line_answered state.past said))
runs_answer state (Err fault) runs =
    let bad : Numbered = record { number = state.number + 1; answer = Err fault } in
    record {
      outcomes = filter_map-append (λ (numbered : Numbered). outcome_told numbered.answer) state.answers (bad ∷ []) ∙ append-nil (outcomes_told state.answers) ∙ runs.outcomes;
      past = runs.past;
    }
runs_answer state (Ok event) runs =
    let before = reverse state.past.events in
    let told : Numbered = record { number = state.number + 1; answer = Ok (told_behind state.past event) } in
    let last : List Outcome = event_outcome (state_after state.past) event ∷ [] in
    let more : reverse (event ∷ state.past.events) ≡ before ++ event ∷ [] = reverse-append (event ∷ []) state.past.events in
    record {
      outcomes =
          filter_map-append (λ (numbered : Numbered). outcome_told numbered.answer) state.answers (told ∷ [])
          ∙ ap (λ (outcomes : List Outcome). outcomes ++ last) runs.outcomes
          ∙ ap (λ (past : World). run_outcomes no_events before ++ event_outcome (state_after past) event ∷ []) runs.past
          ∙ sym (outcomes_last no_events before event)
          ∙ ap (run_outcomes no_events) (sym more);
      past = ap (λ (past : World). with_event past event) runs.past ∙ sym (past_last no_events before event) ∙ ap (run_past no_events) (sym more);
    }

runs_line : (state : State) (line : List ℕ) → Runs state → Runs (after_line state line)
runs_line state line runs = by_test (is_skipped (without_return line))
  where
    by_test : (b : Bool) → Runs (if b then record state { number = state.number + 1 } else after_answer state (line_answered state.past (event_in state.past (without_return line))))
    by_test true = record { outcomes = runs.outcomes; past = runs.past }
    by_test false = runs_answer state (event_in state.past (without_return line)) runs

runs_lines : (state : State) (lines : List (List ℕ)) → Runs state → Runs (fold after_line state lines)
runs_lines state [] runs = runs
runs_lines state (line ∷ lines) runs = runs_lines (after_line state line) lines (runs_line state line runs)

pub are_runs : ScriptsAreRuns
are_runs lines =
    let runs = runs_lines no_lines lines (record { outcomes = refl; past = refl }) in
    record { outcomes = runs.outcomes; past = runs.past }
