-- What is written of a script that was not run to its end, or not all written.
use Rattle.std.proofs.Common.{◌≡◌, ℕ, zero, suc, ◌+◌, ◌<◌, Bool, true, false, List, [], ◌∷◌, ◌++◌, take, length, Option, Some, None, Result, Ok, Err, refl, sym, ap, ◌∙◌, arith, append_assoc, append-nil, eqb, subst}
use Rattle.std.specs.Prelude.{fold, OnOk, OnErr, IfSome, if◌then◌else◌}
use Rattle.std.specs.String.{string_bytes}
use Rattle.std.proofs.lemmas.List.Splits.{length-slice_split}
use Rattle.std.proofs.lemmas.List.Concat.{flat_map-append}
use Rattle.script_words.specs.Words.{lines_of, is_skipped, without_return}
use Rattle.script_runs.specs.Channel.{AppendsFront}
use Rattle.script_runs.proofs.Endings.{Front, appends_none, front_written}
use Rattle.cluster_text.specs.ToldText.{answer_line}
use Rattle.cluster_runs.specs.Output.{State, Numbered, no_lines, line_answered, event_in, after_answer, after_line, answers_of_first, text_of, output_of}
use Rattle.cluster_runs.specs.declared.session.Session.{Session}
use Rattle.cluster_runs.specs.Ended.{IsAnswersOfFirst, AppendsAnswersOfFirst}
use Rattle.cluster_runs.specs.Shown.{ShowsFirst}

has_lines : (script : List ℕ) → 0 < length (lines_of script)
has_lines script = omega (arith, length-slice_split (λ b. eqb b 10) script)

-- memory ran out in a line of a script that was run from its beginning
pub first_served : (script : List ℕ) (session : Session) → ShowsFirst no_lines (lines_of script) session → IsAnswersOfFirst session.number script (string_bytes session.out)
first_served script session first =
    let is : session.number ≡ first.count = omega (arith, first.number) in
    record { within = subst (λ k. k < length (lines_of script)) (sym is) first.within; is = first.text ∙ ap (λ k. text_of (answers_of_first k script)) (sym is) }

nothing_written : (known old : Option (List ℕ)) → IfSome known (λ script. AppendsAnswersOfFirst 0 old old script)
nothing_written None old = tt
nothing_written (Some script) old = record { within = has_lines script; written = appends_none old }

-- answers are only added

record Goes (state later : State) : Type 0 where
  more : List Numbered
  is : later.answers ≡ state.answers ++ more

goes_self : (state : State) → Goes state state
goes_self state = record { more = []; is = sym (append-nil state.answers) }

goes_on : (a b c : State) → Goes a b → Goes b c → Goes a c
goes_on a b c p q = record { more = p.more ++ q.more; is = q.is ∙ ap (λ l. l ++ q.more) p.is ∙ append_assoc a.answers p.more q.more }

goes_line : (state : State) (line : List ℕ) → Goes state (after_line state line)
goes_line state line = by_test (is_skipped (without_return line))
  where
    by_test : (b : Bool) → Goes state (if b then record state { number = state.number + 1 } else after_answer state (line_answered state.past (event_in state.past (without_return line))))
    by_test true = record { more = []; is = sym (append-nil state.answers) }
    by_test false = record { more = record { number = state.number + 1; answer = (line_answered state.past (event_in state.past (without_return line))).answer } ∷ []; is = refl }

goes_lines : (state : State) (lines : List (List ℕ)) → Goes state (fold after_line state lines)
goes_lines state [] = goes_self state
goes_lines state (line ∷ lines) = goes_on state (after_line state line) (fold after_line (after_line state line) lines) (goes_line state line) (goes_lines (after_line state line) lines)

goes_first : (state : State) (lines : List (List ℕ)) (count : ℕ) → Goes (fold after_line state (take count lines)) (fold after_line state lines)
goes_first state lines zero = goes_lines state lines
goes_first state [] (suc count) = goes_self state
goes_first state (line ∷ lines) (suc count) = goes_first (after_line state line) lines count

first_is_front : (served : ℕ) (script text : List ℕ) → IsAnswersOfFirst served script text → Front text (output_of script)
first_is_front served script text b =
    let rest = goes_first no_lines (lines_of script) served in
    record { more = text_of rest.more; is = ap text_of rest.is ∙ flat_map-append (λ (numbered : Numbered). answer_line numbered.number numbered.answer) (answers_of_first served script) rest.more ∙ ap (λ t. t ++ text_of rest.more) (sym b.is) }

pub ended_front : {S E : Type 0} (r : Result S E) (served : ℕ) (script text : List ℕ) → OnOk r (text ≡ output_of script) → OnErr r (IsAnswersOfFirst served script text) → Front text (output_of script)
ended_front (Ok s) served script text ok err = record { more = []; is = sym ok ∙ sym (append-nil text) }
ended_front (Err e) served script text ok err = first_is_front served script text err

pub partly_written : (known old new : Option (List ℕ)) (script text : List ℕ) → IfSome known (λ input. script ≡ input) → Front text (output_of script) → AppendsFront old new text
    → IfSome known (λ input. AppendsFront old new (output_of input))
partly_written None old new script text h front written = tt
partly_written (Some input) old new script text h front written = rw (← h) (front_written old new text (output_of script) front written)

-- a fault before the script was run

pub nothing_at : (known old : Option (List ℕ)) (served : ℕ) → served ≡ 0 → IfSome known (λ script. AppendsAnswersOfFirst served old old script)
nothing_at known old served e = subst (λ n. IfSome known (λ script. AppendsAnswersOfFirst n old old script)) (sym e) (nothing_written known old)
