-- The lines of a script that are answered `bad` are its ill-formed ones.
use Rattle.std.proofs.Common.{◌≡◌, ℕ, ◌+◌, ◌<◌, Bool, true, false, List, [], ◌∷◌, ◌++◌, None, Result, Ok, Err, Bor, refl, sym, ap, ◌∙◌, subst, length, map, take, get_or, append-nil}
use Rattle.std.specs.Prelude.{if◌then◌else◌}
use Rattle.std.specs.Result.{result_err}
use Rattle.std.proofs.lemmas.List.Elements.{filter_map-append}
use Rattle.hdfs_values.specs.declared.fault.IllFormed.{IllFormed}
use Rattle.script_words.specs.Words.{without_return, is_skipped}
use Rattle.script_runs.proofs.Lines.{fold_step}
use Rattle.cluster_trace.specs.declared.event.Event.{Event}
use Rattle.script_hints.specs.Hints.{fault_in}
use Rattle.cluster_runs.specs.Output.{World, State, Numbered, ledger_after, no_lines, line_answered, event_in, after_answer, after_line, after_lines, behind_lines}
use Rattle.cluster_runs.specs.Shown.{Shows}
use Rattle.cluster_runs.specs.declared.session.Session.{Session}
use Rattle.hdfs_cli.specs.Hinted.{NumberedFault, faults_at, bad_at, bad_answers}

-- ---- one line more

one_answer : (state : State) (said : Result Event IllFormed)
    → bad_answers (after_answer state (line_answered state.past said)).answers ≡ bad_answers state.answers ++ faults_at (state.number + 1) (result_err said)
one_answer state (Ok event) = filter_map-append (λ (numbered : Numbered). bad_at numbered.number numbered.answer) state.answers _
one_answer state (Err fault) = filter_map-append (λ (numbered : Numbered). bad_at numbered.number numbered.answer) state.answers _

abbrev after_said : State → Bool → Result Event IllFormed → State
after_said state skipped said = if skipped then record state { number = state.number + 1 } else after_answer state (line_answered state.past said)

bad_said : (state : State) (skipped : Bool) (said : Result Event IllFormed)
    → bad_answers (after_said state skipped said).answers ≡ bad_answers state.answers ++ faults_at (state.number + 1) (if skipped then None else result_err said)
bad_said state true said = sym (append-nil _)
bad_said state false said = one_answer state said

number_said : (state : State) (skipped : Bool) (said : Result Event IllFormed) → (after_said state skipped said).number ≡ state.number + 1
number_said state true said = refl
number_said state false said = refl

bad_more : (state : State) (line : List ℕ) → bad_answers (after_line state line).answers ≡ bad_answers state.answers ++ faults_at (state.number + 1) (fault_in (ledger_after state.past) line)
bad_more state line = bad_said state (is_skipped (without_return line)) (event_in state.past (without_return line))

number_more : (state : State) (line : List ℕ) → (after_line state line).number ≡ state.number + 1
number_more state line = number_said state (is_skipped (without_return line)) (event_in state.past (without_return line))

-- ---- a session that runs them, and has a hint on each that is ill-formed

abbrev now : Bor (List ℕ) → List ℕ
now line = line.now

-- what so many first lines leave
abbrev front : ℕ → List (Bor (List ℕ)) → State
front i lines = after_lines (take i (map now lines))

module _ (lines : List (Bor (List ℕ))) (i : ℕ) (d : Bor (List ℕ)) (within : i < length lines) where
  one_more : after_line (front i lines) (get_or lines i d).now ≡ front (i + 1) lines
  one_more = fold_step now after_line no_lines _ _ lines i d within refl refl

  pub number_next : (old new : Session) → old.number ≡ i → Shows (front i lines) old → Shows (behind_lines (front i lines) ((get_or lines i d).now ∷ [])) new → new.number ≡ i + 1
  number_next old new at shows served = served.number ∙ number_more (front i lines) (get_or lines i d).now ∙ ap (λ n. n + 1) (sym shows.number ∙ at)

  pub shows_next : (new : Session) → Shows (behind_lines (front i lines) ((get_or lines i d).now ∷ [])) new → Shows (front (i + 1) lines) new
  shows_next new served = subst (λ (state : State). Shows state new) one_more served

  pub hints_next : (old : Session) (faults more : List NumberedFault) → Shows (front i lines) old → faults ≡ bad_answers (front i lines).answers
      → more ≡ faults ++ faults_at (old.number + 1) (fault_in (ledger_after old.world) (get_or lines i d).now) → more ≡ bad_answers (front (i + 1) lines).answers
  hints_next old faults more shows found added =
      let state : State = front i lines in
      let line : List ℕ = (get_or lines i d).now in
      added
      ∙ ap (λ before. before ++ faults_at (old.number + 1) (fault_in (ledger_after old.world) line)) found
      ∙ ap (λ n. bad_answers state.answers ++ faults_at (n + 1) (fault_in (ledger_after old.world) line)) shows.number
      ∙ ap (λ (past : World). bad_answers state.answers ++ faults_at (state.number + 1) (fault_in (ledger_after past) line)) shows.world
      ∙ sym (bad_more state line)
      ∙ ap (λ (s : State). bad_answers s.answers) one_more
