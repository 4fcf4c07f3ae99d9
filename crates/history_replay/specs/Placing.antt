-- What is found of one pass.
use Rattle.std.specs.Prelude.{◌≡◌, ℕ, List, slice_get, Option, Some, None}
use Rattle.history.specs.declared.entry.HistoryEntry.{HistoryEntry}
use Rattle.history.specs.declared.entry.Answer.{Answer}
use Rattle.history_replay.specs.Agreement.{IsPlaced, bound_of}
use Rattle.history_replay.specs.declared.pair.Pair.{Pair}

-- the receipt of the pass with so many before it
abbrev pub PlacedAt : ℕ → List HistoryEntry → ℕ → List Answer → ℕ → Type 0
PlacedAt begun history pass answers index = (answer : Answer) → slice_get answers index ≡ Some answer → IsPlaced history (bound_of begun answers index) pass index answer

-- all receipts of the pass can stand, or one that can't is found
abbrev pub PassPlaced : ℕ → List HistoryEntry → ℕ → List Answer → Option Pair → Type 0
PassPlaced begun history pass answers None = (index : ℕ) → PlacedAt begun history pass answers index
PassPlaced begun history pass answers (Some pair) = (pair.pass ≡ pass) × (PlacedAt begun history pass answers pair.index → ⊥)
