-- One event more.
use Rattle.std.proofs.Common.{◌≡◌, ℕ, ◌+◌, Bool, true, false, ◌||◌, List, [], ◌∷◌, ◌++◌, length, Result, Ok, Err, refl, sym, ap, ◌∙◌, append-nil}
use Rattle.std.specs.List.{list_any}
use Rattle.std.specs.String.{string_bytes}
use Rattle.std.proofs.lemmas.List.Concat.{flat_map-append}
use Rattle.std.proofs.lemmas.List.Folds.{list_any-append}
use Rattle.hdfs_values.specs.declared.fault.IllFormed.{IllFormed}
use Rattle.cluster_trace.specs.Trace.{event_outcome}
use Rattle.cluster_trace.specs.declared.event.Event.{Event}
use Rattle.cluster_trace.specs.declared.outcome.Outcome.{Outcome}
use Rattle.cluster_core.specs.Past.{World}
use Rattle.cluster_core.specs.World.{state_after, with_event}
use Rattle.cluster_text.specs.ToldText.{Told, answer_line, is_bad_line}
use Rattle.cluster_runs.specs.Output.{State, Numbered, ledger_after, newest_verdict, told_behind, line_answered, after_answer, text_of}
use Rattle.cluster_runs.specs.Shown.{Shows}
use Rattle.cluster_runs.specs.declared.session.Session.{Session}

or_false : (b : Bool) → (b || false) ≡ b
or_false true = refl
or_false false = refl

-- what was printed is what comes of the event behind the past
told_is : (past new : World) (event : Event) (own : Outcome) (rows : ℕ) → new ≡ with_event past event → own ≡ event_outcome (state_after past) event → rows ≡ length (ledger_after past)
    → record { outcome = own; rows = rows; newest = newest_verdict new } ≡ told_behind past event
told_is past new event own rows is came counted =
    ap (λ (left : World). record { outcome = own; rows = rows; newest = newest_verdict left }) is
    ∙ ap (λ (what : Outcome). record { outcome = what; rows = rows; newest = newest_verdict (with_event past event) }) came
    ∙ ap (λ (n : ℕ). record { outcome = event_outcome (state_after past) event; rows = n; newest = newest_verdict (with_event past event) }) counted

-- a session that has stepped an event
pub record Steps (old : Session) (event : Event) (own : Outcome) (rows : ℕ) (new : Session) : Type 0 where
  pub number : new.number ≡ old.number + 1
  pub world : new.world ≡ with_event old.world event
  pub bad : new.has_bad ≡ old.has_bad
  pub came : own ≡ event_outcome (state_after old.world) event
  pub counted : rows ≡ length (ledger_after old.world)
  pub text : string_bytes new.out ≡ string_bytes old.out ++ answer_line (old.number + 1) (Ok (record { outcome = own; rows = rows; newest = newest_verdict new.world }))

pub shows_more : (state : State) (old : Session) (event : Event) (own : Outcome) (rows : ℕ) (new : Session) → Steps old event own rows new → Shows state old → Shows (after_answer state (line_answered state.past (Ok event))) new
shows_more state old event own rows new steps shows =
    let line : ℕ → Told → List ℕ = λ n told. answer_line (n + 1) (Ok told) in
    let front = text_of state.answers in
    let answer : Numbered = record { number = state.number + 1; answer = Ok (told_behind state.past event) } in
    record {
      number = steps.number ∙ ap (λ n. n + 1) shows.number;
      world = steps.world ∙ ap (λ (past : World). with_event past event) shows.world;
      text =
          steps.text
          ∙ ap (λ told. string_bytes old.out ++ line old.number told) (told_is old.world new.world event own rows steps.world steps.came steps.counted)
          ∙ ap (λ text. text ++ line old.number (told_behind old.world event)) shows.text
          ∙ ap (λ n. front ++ line n (told_behind old.world event)) shows.number
          ∙ ap (λ (past : World). front ++ line state.number (told_behind past event)) shows.world
          ∙ ap (λ text. front ++ text) (sym (append-nil (line state.number (told_behind state.past event))))
          ∙ sym (flat_map-append (λ (numbered : Numbered). answer_line numbered.number numbered.answer) state.answers (answer ∷ []));
      bad =
          steps.bad
          ∙ shows.bad
          ∙ sym (or_false (list_any (λ (numbered : Numbered). is_bad_line numbered.answer) state.answers))
          ∙ sym (list_any-append (λ (numbered : Numbered). is_bad_line numbered.answer) state.answers (answer ∷ []));
    }
