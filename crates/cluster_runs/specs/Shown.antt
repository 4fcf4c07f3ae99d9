-- What a running script holds, beside what its lines so far leave.
use Rattle.std.specs.Prelude.{◌≡◌, ◌<◌, ◌+◌, ℕ, List, length, take}
use Rattle.std.specs.List.{list_any}
use Rattle.std.specs.String.{string_bytes}
use Rattle.cluster_text.specs.ToldText.{is_bad_line}
use Rattle.cluster_runs.specs.declared.session.Session.{Session}
use Rattle.cluster_runs.specs.Output.{State, behind_lines, text_of}

pub record Shows (state : State) (session : Session) : Type 0 where
  pub number : session.number ≡ state.number
  pub world : session.world ≡ state.past
  pub text : string_bytes session.out ≡ text_of state.answers
  pub bad : session.has_bad ≡ list_any (λ numbered. is_bad_line numbered.answer) state.answers

-- the lines that were run, and what they print, stay as they were
pub record KeepsLines (old new : Session) : Type 0 where
  pub number : new.number ≡ old.number
  pub text : string_bytes new.out ≡ string_bytes old.out

-- of more lines, memory ran out in one: those before it were run, and what they print is held
pub record ShowsFirst (state : State) (lines : List (List ℕ)) (session : Session) : Type 0 where
  pub count : ℕ
  pub within : count < length lines
  pub number : session.number ≡ state.number + count
  pub text : string_bytes session.out ≡ text_of (behind_lines state (take count lines)).answers
