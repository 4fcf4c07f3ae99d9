use Rattle.std.proofs.Common.{◌≡◌, ◌+◌, ℕ, ◌<◌, Some, List, length, slice_get}
use Rattle.history.specs.declared.entry.Answer.{Answer}
use Rattle.history_replay.specs.Looking.{HasLooks}
use Rattle.history_replay.proofs.looks.Looks.of.Given as goal

abbrev pub invariant-loop-i : goal.invariant-loop-i
invariant-loop-i l = (length l.looks ≡ l.entries + 1) × ((pass : ℕ) → pass < l.i → (answers : List Answer) → slice_get l.passes pass ≡ Some answers → HasLooks l.looks pass answers)
