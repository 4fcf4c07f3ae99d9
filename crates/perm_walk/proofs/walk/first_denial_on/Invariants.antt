use Rattle.std.proofs.Common.{◌≡◌, drop}
use Rattle.namespace_rows.specs.First.{first_answer}
use Rattle.flat_rows.specs.Decision.{asks_of, denial_of}
use Rattle.perm_walk.specs.Walked.{IsDescent}
use Rattle.perm_walk.proofs.walk.first_denial_on.Given as goal

abbrev pub invariant-loop-demand : goal.invariant-loop-demand
invariant-loop-demand l = record {
  answers : first_answer (λ demand. first_answer (denial_of l.caller) (asks_of l.tree demand)) (drop l.demand-index l.demands) ≡ first_answer (λ demand. first_answer (denial_of l.caller) (asks_of l.tree demand)) l.demands;
  descent : IsDescent l.tree l.descent;
  path : l.descent.path.now ≡ l.initial.descent.path.now;
}
