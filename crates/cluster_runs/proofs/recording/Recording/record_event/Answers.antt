use Rattle.std.proofs.Common.{◌≡◌, ◌+◌, Bool, true, false, ◌||◌, [], ◌∷◌, Ok, refl, sym, ap, ◌∙◌}
use Rattle.std.specs.List.{list_any}
use Rattle.std.proofs.lemmas.List.Folds.{list_any-append}
use Rattle.cluster_core.specs.Past.{World}
use Rattle.cluster_core.specs.World.{with_event}
use Rattle.cluster_text.specs.ToldText.{is_bad_line}
use Rattle.cluster_runs.specs.Output.{Numbered, told_behind}
use Rattle.cluster_runs.proofs.recording.Recording.record_event.Goals as goal

or_false : (b : Bool) → (b || false) ≡ b
or_false true = refl
or_false false = refl

-- the cluster has stepped the event
pub returns-clause-ok : goal.returns-clause-ok
returns-clause-ok c = λ state holds.
    let event = c.args.event in
    let answer : Numbered = record { number = state.number + 1; answer = Ok (told_behind state.past event) } in
    record {
      world = c.in_ok-outcome.ensures.world ∙ ap (λ (past : World). with_event past event) holds.world;
      bad =
          holds.bad
          ∙ sym (or_false (list_any (λ (numbered : Numbered). is_bad_line numbered.answer) state.answers))
          ∙ sym (list_any-append (λ (numbered : Numbered). is_bad_line numbered.answer) state.answers (answer ∷ []));
    }
