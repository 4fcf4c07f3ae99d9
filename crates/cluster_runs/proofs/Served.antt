-- The lines of a text, each run as it is cut from the text.
use Rattle.std.proofs.Common.{◌≡◌, ℕ, ◌+◌, ◌<◌, List, [], ◌∷◌, ◌++◌, take, length, refl, sym, ap, ◌∙◌, append_assoc, length-append, arith, subst}
use Rattle.std.proofs.lemmas.List.Sums.{fold-append}
use Rattle.script_words.specs.Words.{lines_of}
use Rattle.cluster_runs.specs.Output.{State, after_line, behind_lines, text_of}
use Rattle.cluster_runs.specs.Shown.{Shows, KeepsLines, ShowsFirst}
use Rattle.cluster_runs.specs.declared.session.Session.{Session}

-- the lines before the rest of a text were run
pub record ServedTo (text rest : List ℕ) (old new : Session) : Type 0 where
  pub lines : List (List ℕ)
  pub are : lines_of text ≡ lines ++ lines_of rest
  pub number : new.number ≡ old.number + length lines
  pub shows : (state : State) → Shows state old → Shows (behind_lines state lines) new

pub none_yet : (text : List ℕ) (session : Session) → ServedTo text text session session
none_yet text session = record { lines = []; are = refl; number = omega (arith); shows = λ state shown. shown }

-- what is known of a session in which a line was served
abbrev pub ServesLine : List ℕ → Session → Session → Type 0
ServesLine line old new = (state : State) → Shows state old → Shows (behind_lines state (line ∷ [])) new

served_last : (state : State) (lines : List (List ℕ)) (line : List ℕ) (old new : Session) → Shows (behind_lines state lines) old → ServesLine line old new
    → Shows (behind_lines state (lines ++ line ∷ [])) new
served_last state lines line old new before served =
    subst (λ (s : State). Shows s new) (sym (fold-append after_line state lines (line ∷ []))) (served (behind_lines state lines) before)

-- one line more
pub one_more : (text rest line behind : List ℕ) (initial old new : Session) → ServedTo text rest initial old → lines_of rest ≡ line ∷ lines_of behind
    → new.number ≡ old.number + 1 → ServesLine line old new → ServedTo text behind initial new
one_more text rest line behind initial old new before cut number served =
    record {
      lines = before.lines ++ line ∷ [];
      are = before.are ∙ ap (λ l. before.lines ++ l) cut ∙ sym (append_assoc before.lines (line ∷ []) (lines_of behind));
      number = omega (arith, before.number, number, length-append before.lines (line ∷ []));
      shows = λ state shown. served_last state before.lines line old new (before.shows state shown) served;
    }

-- the last line
pub all_served : (text rest : List ℕ) (initial old new : Session) → ServedTo text rest initial old → lines_of rest ≡ rest ∷ [] → ServesLine rest old new
    → (state : State) → Shows state initial → Shows (behind_lines state (lines_of text)) new
all_served text rest initial old new before cut served = λ state shown.
    subst (λ (lines : List (List ℕ)). Shows (behind_lines state lines) new) (sym (before.are ∙ ap (λ l. before.lines ++ l) cut))
    (served_last state before.lines rest old new (before.shows state shown) served)

-- ---- memory runs out in a line

front_within : (front : List (List ℕ)) (line : List ℕ) (more : List (List ℕ)) → length front < length (front ++ line ∷ more)
front_within front line more = omega (arith, length-append front (line ∷ more))

front_taken : (front more : List (List ℕ)) → take (length front) (front ++ more) ≡ front
front_taken [] more = refl
front_taken (first ∷ front) more = ap (λ l. first ∷ l) (front_taken front more)

-- the lines before it were served
pub front_served : (text rest line : List ℕ) (more : List (List ℕ)) (initial old new : Session) → ServedTo text rest initial old → lines_of rest ≡ line ∷ more → KeepsLines old new
    → (state : State) → Shows state initial → ShowsFirst state (lines_of text) new
front_served text rest line more initial old new before cut kept = λ state shown.
    let are : lines_of text ≡ before.lines ++ line ∷ more = before.are ∙ ap (λ l. before.lines ++ l) cut in
    let shows = before.shows state shown in
    let front : take (length before.lines) (lines_of text) ≡ before.lines = ap (take (length before.lines)) are ∙ front_taken before.lines (line ∷ more) in
    record {
      count = length before.lines;
      within = subst (λ (lines : List (List ℕ)). length before.lines < length lines) (sym are) (front_within before.lines line more);
      number = omega (arith, kept.number, before.number, shown.number);
      text = kept.text ∙ shows.text ∙ ap (λ (lines : List (List ℕ)). text_of (behind_lines state lines).answers) (sym front);
    }
