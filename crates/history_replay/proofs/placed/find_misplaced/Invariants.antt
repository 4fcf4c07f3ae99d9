use Rattle.std.proofs.Common.{◌≡◌, ℕ, ◌<◌, Some, List, slice_get}
use Rattle.history.specs.declared.entry.Answer.{Answer}
use Rattle.history_replay.specs.Placing.{PlacedAt}
use Rattle.history_replay.proofs.placed.find_misplaced.Given as goal

abbrev pub invariant-loop-i : goal.invariant-loop-i
invariant-loop-i l = (pass : ℕ) → pass < l.i → (answers : List Answer) → slice_get l.passes pass ≡ Some answers → (index : ℕ) → PlacedAt l.begun l.history pass answers index
