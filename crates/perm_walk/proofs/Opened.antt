-- What is counted of a sub-tree is what stands there, and no directory of it is closed.
use Rattle.std.proofs.Common.{◌≡◌, ℕ, List, Some, None, sym, ap}
use Rattle.std.specs.List.{filter}
use Rattle.permission_bits.specs.declared.rights.Rights.{Rights}
use Rattle.namespace_rows.specs.declared.row.Row.{Row}
use Rattle.namespace_rows.specs.First.{first}
use Rattle.namespace_rows.specs.Changes.{rows_under}
use Rattle.inode_visits.specs.Visits.{counted_open, is_closed}
use Rattle.inode_visits.specs.declared.visit.Counted.{Counted}
use Rattle.inode_visits.proofs.Visits.{none_passes, counted_all_open, counted_is}
use Rattle.perm_walk.specs.Reached.{IsCounted}

module _ (caller : List ℕ) (groups : List (List ℕ)) (need : Rights) where
  pub opened_none : (rows : List Row) (all : Counted) → counted_open caller groups need rows ≡ Some all → None ≡ first (filter (is_closed caller groups need) rows)
  opened_none rows all h = sym (none_passes (is_closed caller groups need) rows (counted_all_open caller groups need rows all h))

  pub opened_counted : (path : List (List ℕ)) (rows : List Row) (all : Counted) → counted_open caller groups need (rows_under path rows) ≡ Some all → IsCounted path rows all
  opened_counted path rows all h =
      let is = counted_is caller groups need (rows_under path rows) all h in
      record { number = ap (λ (x : Counted). x.number) is; files = ap (λ (x : Counted). x.has_files) is }
