-- What contracts see of the map of leases.
use Rattle.std.specs.Prelude.{ℕ, List, map, reverse}
use Rattle.lease_manager.specs.Leases.{Renewal, Leases}
use Rattle.lease_manager.specs.declared.leases.Leases.TheInside.{Inside}

-- the entries have the latest renewal first, and the renewals the oldest
abbrev pub renewals_of : List (List ℕ × ℕ) → List Renewal
renewals_of entries = map (λ entry. record { client = entry.0; moment = entry.1 }) (reverse entries)

abbrev pub leases_of : Inside → Leases
leases_of leases = record { limits = record { soft = leases.soft; hard = leases.hard }; renewals = renewals_of leases.renewals.entries }
