use Rattle.std.proofs.Common.{◌≡◌, ◌++◌, map, take}
use Rattle.flat_rows.specs.Decision.{ask_judged}
use Rattle.flat_rows.proofs.trail.add_judged.Given as goal

abbrev pub invariant-loop-ask : goal.invariant-loop-ask
invariant-loop-ask l = l.judged.items ≡ l.initial.judged.items ++ map (ask_judged l.caller) (take l.ask-index l.asks)
