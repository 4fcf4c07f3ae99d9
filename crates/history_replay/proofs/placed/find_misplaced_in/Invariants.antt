use Rattle.std.proofs.Common.{◌≡◌, ℕ, ◌<◌}
use Rattle.history_replay.specs.Agreement.{bound_of}
use Rattle.history_replay.specs.Placing.{PlacedAt}
use Rattle.history_replay.proofs.placed.find_misplaced_in.Given as goal

abbrev pub invariant-loop-i : goal.invariant-loop-i
invariant-loop-i l = (l.bound ≡ bound_of l.begun l.answers l.i) × ((index : ℕ) → index < l.i → PlacedAt l.begun l.history l.pass l.answers index)
