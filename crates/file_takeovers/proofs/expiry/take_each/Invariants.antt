use Rattle.std.proofs.Common.{◌≡◌, ◌≤◌, ℕ, List, Option, map}
use Rattle.std.specs.BTreeMap.{get}
use Rattle.std.specs.List.{AllByRecursion}
use Rattle.std.specs.List.Sorted.{IsStrictlySortedBy}
use Rattle.std.specs.Map.{keys_of}
use Rattle.std.specs.Ordering.{nat_cmp}
use Rattle.file_paths.specs.PathOrder.{path_cmp}
use Rattle.namespace_rows.specs.Namespace.{IsNamespace}
use Rattle.recovery_queue.specs.declared.begun.BegunRecovery.{BegunRecovery}
use Rattle.flat_rows.specs.Takeover.{stamp_in}
use Rattle.lease_manager.specs.Leases.{latest_moment}
use Rattle.file_effects.specs.Effected.{IsExact}
use Rattle.file_takeovers.proofs.TakenFiles.{IsHeld, taken_by}
use Rattle.file_takeovers.proofs.expiry.take_each.Given as goal

abbrev pub invariant-loop-path : goal.invariant-loop-path
invariant-loop-path l = record {
  can_next : (goal.iterator-loop-path).can_next l.path-iterator;
  is_finite : (goal.iterator-loop-path).is_finite l.path-iterator;
  ordered : IsStrictlySortedBy path_cmp (keys_of l.path-iterator);
  held : AllByRecursion (IsHeld l.tree) l.path-iterator;
  namespace : IsNamespace l.tree;
  left : (begun : List BegunRecovery) → ((block : ℕ) → get nat_cmp l.stamps block ≡ stamp_in begun block) → map (taken_by begun l.now l.path-iterator) l.tree ≡ map (taken_by begun l.now l.files.entries) l.fn.tree;
  exact : (last : List ℕ → Option ℕ) → IsExact last l.fn.tree l.fn.writers → IsExact last l.tree l.writers;
  limits : l.writers.leases.limits ≡ l.fn.writers.leases.limits;
  latest : latest_moment l.writers.leases.renewals ≤ latest_moment l.fn.writers.leases.renewals;
}
