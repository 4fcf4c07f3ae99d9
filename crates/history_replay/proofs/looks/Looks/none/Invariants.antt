use Rattle.std.proofs.Common.{◌≡◌, length}
use Rattle.history_replay.proofs.looks.Looks.none.Given as goal

abbrev pub invariant-loop-place : goal.invariant-loop-place
invariant-loop-place l = length l.places.items ≡ l._place
