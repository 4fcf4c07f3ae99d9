use Rattle.std.proofs.Common.{◌≡◌, ℕ, ◌<◌, Some, slice_get}
use Rattle.history.specs.declared.entry.HistoryEntry.{HistoryEntry}
use Rattle.history_replay.proofs.opening.find_lost.Given as goal

abbrev pub invariant-loop-i : goal.invariant-loop-i
invariant-loop-i l = (before : ℕ) → before < l.i → (entry : HistoryEntry) → slice_get l.begun before ≡ Some entry → slice_get l.history before ≡ Some entry
