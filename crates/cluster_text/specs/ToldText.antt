-- The text of what comes of an event.
use Rattle.std.specs.Prelude.{ℕ, zero, suc, ◌+◌, Bool, true, false, List, [], ◌∷◌, ◌++◌, Option, Some, None, Result, Ok, Err, codes}
use Rattle.std.specs.Fmt.{decimal}
use Rattle.hdfs_values.specs.Faults.{ill_formed_text}
use Rattle.hdfs_values.specs.declared.fault.IllFormed.{IllFormed}
use Rattle.flat_rows.specs.declared.verdict.Verdict.{Verdict}
use Rattle.script_text.specs.AnswerText.{verdict_text}
use Rattle.cluster_text.specs.ReplyText.{called_text, led_text}
use Rattle.cluster_trace.specs.Refusals.{cluster_refusal_text}
use Rattle.cluster_trace.specs.declared.outcome.EventAnswer.{EventAnswer}
use Rattle.cluster_trace.specs.declared.outcome.EventAnswer.TheVariants.{Named, Called, Led, Lost}
use Rattle.cluster_trace.specs.declared.outcome.Outcome.{Outcome}

-- what came of an event; how many rows the ledger had before it, by which the tokens that it grants are numbered; and the verdict of the
-- newest entry behind it, which is that of its request, if it brought one
pub record Told : Type 0 where
  pub outcome : Outcome
  pub rows : ℕ
  pub newest : Option Verdict

abbrev pub ruled_text : ℕ → Option Verdict → List ℕ
ruled_text rows None = []
ruled_text rows (Some verdict) = verdict_text rows verdict

abbrev pub event_answer_text : ℕ → Option Verdict → EventAnswer → List ℕ
event_answer_text rows newest (Named place) = ruled_text rows newest
event_answer_text rows newest (Called result) = called_text result
event_answer_text rows newest (Led result) = led_text result
event_answer_text rows newest (Lost refusal) = codes "refused " ++ cluster_refusal_text refusal

-- the numbers of the first and the last message that are sent, if any is
abbrev pub sent_text : ℕ → ℕ → List ℕ
sent_text first zero = []
sent_text first (suc later) = codes " sent " ++ (decimal first ++ (45 ∷ decimal (first + later)))

abbrev pub told_text : Told → List ℕ
told_text told = event_answer_text told.rows told.newest told.outcome.answer ++ sent_text told.outcome.first told.outcome.count

-- a line is answered by what came of its event, or by how it is ill-formed
abbrev pub line_text : Result Told IllFormed → List ℕ
line_text (Err fault) = codes "bad " ++ ill_formed_text fault
line_text (Ok told) = told_text told

-- the line's number, a blank, the answer and a line feed
abbrev pub answer_line : ℕ → Result Told IllFormed → List ℕ
answer_line number answer = decimal number ++ (32 ∷ (line_text answer ++ (10 ∷ [])))

-- whether the line was ill-formed
abbrev pub is_bad_line : Result Told IllFormed → Bool
is_bad_line (Err fault) = true
is_bad_line (Ok told) = false
