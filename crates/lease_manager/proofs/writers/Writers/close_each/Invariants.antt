use Rattle.std.proofs.Common.{◌≡◌, ◌≤◌, ◌-◌, ℕ, List, Option, filter, length, take}
use Rattle.hdfs_values.specs.Text.{same}
use Rattle.lease_manager.specs.Leases.{latest_moment}
use Rattle.lease_manager.specs.Writers.{count_of, IsLeased}
use Rattle.lease_manager.proofs.writers.Writers.close_each.Given as goal

abbrev pub invariant-loop-client : goal.invariant-loop-client
invariant-loop-client l = record {
  files : (other : List ℕ) → count_of l.self.files other ≡ count_of l.fn.self.files other - length (filter (same other) (take l.client-index l.clients));
  leased : (last : List ℕ → Option ℕ) → IsLeased last l.fn.self → IsLeased last l.self;
  limits : l.self.leases.limits ≡ l.fn.self.leases.limits;
  latest : latest_moment l.self.leases.renewals ≤ latest_moment l.fn.self.leases.renewals;
}
