use Rattle.std.proofs.Common.{◌≡◌, ◌≤◌, ◌<◌, ◌+◌, ◌^◌, ℕ, List, Option, length, sum_by}
use Rattle.std.specs.List.{AllByRecursion}
use Rattle.lease_manager.specs.Leases.{latest_moment}
use Rattle.file_effects.specs.Effected.{IsExact}
use Rattle.file_takeovers.specs.Expiry.{finished_closed, finished_of, AreAtMost}
use Rattle.file_takeovers.proofs.ClosedFiles.{IsPart}
use Rattle.file_takeovers.proofs.expiry.close_each.Given as goal

abbrev pub invariant-loop-client : goal.invariant-loop-client
invariant-loop-client l = record {
  can_next : (goal.iterator-loop-client).can_next l.client-iterator;
  is_finite : (goal.iterator-loop-client).is_finite l.client-iterator;
  parts : AllByRecursion (IsPart l.past) l.client-iterator.a.rest.now;
  no_other : finished_closed l.past l.tree ≡ finished_closed l.past l.fn.tree;
  at_most : AreAtMost l.fn.tree l.past l.numbers → AreAtMost l.tree l.client-iterator.a.rest.now l.client-iterator.b.rest.now;
  closed : AreAtMost l.fn.tree l.past l.numbers → finished_closed l.client-iterator.a.rest.now l.tree ≡ finished_closed l.past l.fn.tree;
  count : AreAtMost l.fn.tree l.past l.numbers → sum_by (λ number. number) l.numbers < 2 ^ 64 → l.closed + length (finished_of l.client-iterator.a.rest.now l.tree) ≡ length (finished_of l.past l.fn.tree);
  fits : AreAtMost l.fn.tree l.past l.numbers → sum_by (λ number. number) l.numbers < 2 ^ 64 → l.closed + sum_by (λ number. number) l.client-iterator.b.rest.now ≤ sum_by (λ number. number) l.numbers;
  exact : (last : List ℕ → Option ℕ) → AreAtMost l.fn.tree l.past l.numbers → IsExact last l.fn.tree l.fn.writers → IsExact last l.tree l.writers;
  limits : l.writers.leases.limits ≡ l.fn.writers.leases.limits;
  latest : latest_moment l.writers.leases.renewals ≤ latest_moment l.fn.writers.leases.renewals;
}
