use Rattle.std.proofs.Common.{◌≡◌, ℕ, ◌<◌, ◌≤◌, Some, slice_get}
use Rattle.history.specs.declared.entry.HistoryEntry.{HistoryEntry}
use Rattle.history_replay.specs.Agreement.{IsReceived}
use Rattle.history_replay.proofs.entries.find_unreceived.Given as goal

abbrev pub invariant-loop-i : goal.invariant-loop-i
invariant-loop-i l = (before : ℕ) → before < l.i → (entry : HistoryEntry) → l.begun ≤ before → slice_get l.history before ≡ Some entry → IsReceived l.passes before entry
