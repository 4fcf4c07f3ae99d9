-- What the checker is handed, and what it finds first.
use Rattle.std.specs.Prelude.{ℕ, List, length}
use Rattle.history.specs.declared.entry.HistoryEntry.{HistoryEntry}
use Rattle.history.specs.declared.entry.Answer.{Answer}
use Rattle.history.specs.Config as history
use Rattle.history_replay.specs.Agreement.{Claims, Placed, Received, Opened}
use Rattle.audit_check.specs.declared.check.Opening.{Opening}

abbrev pub history_opening : Opening → history.Opening
history_opening opening = record { config = opening.config; key = opening.first_key }

abbrev pub claims_of : Opening → List HistoryEntry → List (List Answer) → Claims
claims_of opening history passes = record { opening = history_opening opening; begun = opening.entries.items; history = history; passes = passes }

-- what can be told of a pair without the rules
pub record Standing (begun history : List HistoryEntry) (passes : List (List Answer)) (pass index : ℕ) : Type 0 where
  pub placed : Placed (length begun) history passes pass index
  pub received : Received (length begun) history passes pass index
  pub opened : Opened begun history pass index
