-- Searches in a row.
use Rattle.std.proofs.Common.{◌≡◌, ℕ, Option, Some, None, Result, Ok, Err, true, false}
use Rattle.std.specs.Option.{is_some}
use Rattle.std.specs.Result.{IfOk}
use Rattle.history_replay.specs.declared.pair.Pair.{Pair}
use Rattle.history_replay.specs.Agreement.{Finds}

pub none_found : (holds : ℕ → ℕ → Type 0) (found : Option Pair) → Finds holds found → is_some found ≡ false → (pass index : ℕ) → holds pass index
none_found holds None says none = says
none_found holds (Some pair) says none = absurd (apart none)
  where
    apart : true ≡ false → ⊥
    apart e = cc

-- what lacks a part lacks the whole
pub part_found : (holds whole : ℕ → ℕ → Type 0) (found : Option Pair) → Finds holds found → is_some found ≡ true → ((pass index : ℕ) → whole pass index → holds pass index) → Finds whole found
part_found holds whole None says some part = absurd (apart some)
  where
    apart : false ≡ true → ⊥
    apart e = cc
part_found holds whole (Some pair) says some part = λ all. says (part pair.pass pair.index all)

pub last_found : (holds whole : ℕ → ℕ → Type 0) (found : Option Pair) → Finds holds found → ((pass index : ℕ) → whole pass index → holds pass index) → ((pass index : ℕ) → holds pass index → whole pass index) → Finds whole found
last_found holds whole None says part all = λ pass index. all pass index (says pass index)
last_found holds whole (Some pair) says part all = λ w. says (part pair.pass pair.index w)

pub last_searched : {E : Type 0} (holds whole : ℕ → ℕ → Type 0) (found : Result (Option Pair) E) → IfOk found (Finds holds) → ((pass index : ℕ) → whole pass index → holds pass index)
    → ((pass index : ℕ) → holds pass index → whole pass index) → IfOk found (Finds whole)
last_searched holds whole (Ok found) says part all = last_found holds whole found says part all
last_searched holds whole (Err fault) says part all = says
