use Rattle.std.proofs.Common.{◌≡◌, ℕ, ◌<◌}
use Rattle.history_replay.specs.Agreement.{given_by}
use Rattle.history_replay.specs.Replaying.{LegalFrom, TellsAt}
use Rattle.history_replay.proofs.replay.find_on.Given as goal

abbrev pub invariant-loop-i : goal.invariant-loop-i
invariant-loop-i l =
    ((l.core.opening ≡ l.initial.core.opening) × (l.core.entries ≡ given_by l.initial.core.opening l.history l.i))
    × (((before : ℕ) → before < l.i → LegalFrom l.initial.core.opening l.begun l.history before) × ((place : ℕ) → place < l.i → TellsAt l.initial.core.opening l.history l.passes place))
