use Rattle.std.proofs.Common.{◌≡◌, drop}
use Rattle.namespace_rows.specs.First.{first_answer}
use Rattle.flat_rows.specs.Decision.{denial_of}
use Rattle.flat_rows.proofs.decision.first_denial.Given as goal

abbrev pub invariant-loop-ask : goal.invariant-loop-ask
invariant-loop-ask l = first_answer (denial_of l.caller) (drop l.ask-index l.asks) ≡ first_answer (denial_of l.caller) l.asks
