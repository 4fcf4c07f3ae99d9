use Rattle.std.proofs.Common.{◌≡◌, ℕ, true, take}
use Rattle.std.specs.List.{list_any}
use Rattle.history_replay.specs.Looking.{is_pair, ToldHere}
use Rattle.history_replay.proofs.replay.find_untold.Given as goal

abbrev pub invariant-loop-pair : goal.invariant-loop-pair
invariant-loop-pair l = (pass index : ℕ) → list_any (is_pair pass index) (take l.pair-index l.pairs) ≡ true → ToldHere l.core.opening l.core.entries l.passes pass index
