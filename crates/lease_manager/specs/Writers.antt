-- The clients who have files open: how many, and when each last renewed its lease.
use Rattle.std.specs.Prelude.{◌≡◌, ◌<◌, ◌-◌, ◌^◌, ℕ, nat_lt, List, if◌then◌else◌, Option, Some, None, unwrap_or}
use Rattle.std.specs.Map.{lookup}
use Rattle.std.specs.Option.{option_map, IsSome}
use Rattle.hdfs_values.specs.Text.{same}
use Rattle.lease_manager.specs.Leases.{Renewal, renewal_of}
use Rattle.lease_manager.specs.declared.writers.Writers.{Writers}

abbrev pub count_of : List (List ℕ × ℕ) → List ℕ → ℕ
count_of counts client = unwrap_or (lookup (same client) counts) 0

-- one more can be counted
pub record CanCountOneMore (counts : List (List ℕ × ℕ)) (client : List ℕ) : Type 0 where
  pub known : IsSome (lookup (same client) counts)
  pub fits : count_of counts client < 2 ^ 64 - 1

-- when a client last renewed its lease, where it has one
abbrev pub renewal_moment_of : List Renewal → List ℕ → Option ℕ
renewal_moment_of renewals client = option_map (λ renewal. renewal.moment) (renewal_of client renewals)

-- a client that has a file open has a lease, of its last renewal, and no other has one
abbrev pub IsLeased : (List ℕ → Option ℕ) → Writers → Type 0
IsLeased last writers = (client : List ℕ) → renewal_moment_of writers.leases.renewals client ≡ (if nat_lt 0 (count_of writers.files client) then last client else None)

-- last renewals, but that this client has renewed now
abbrev pub renewed_at : List ℕ → ℕ → (List ℕ → Option ℕ) → List ℕ → Option ℕ
renewed_at client now last other = if same client other then Some now else last other

-- all is as before; only spare capacity may differ
pub record IsAlike (before after : Writers) : Type 0 where
  pub leases : after.leases ≡ before.leases
  pub files : (client : List ℕ) → count_of after.files client ≡ count_of before.files client
