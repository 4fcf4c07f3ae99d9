use Rattle.std.proofs.Common.{◌≡◌, ◌++◌, map, take}
use Rattle.flat_rows.specs.Decision.{ask_passed}
use Rattle.flat_rows.proofs.trail.add_passed.Given as goal

abbrev pub invariant-loop-ask : goal.invariant-loop-ask
invariant-loop-ask l = l.judged.items ≡ l.initial.judged.items ++ map ask_passed (take l.ask-index l.asks)
