-- Leases by their last renewals, oldest first, and how one stands by its age.
-- (HDFS Architecture, the single-writer model with its soft and hard limits; that a client is a user is this project's choice.)
use Rattle.std.specs.Prelude.{ℕ, ◌-◌, ◌≤◌, max, nat_lt, not, if◌then◌else◌, List, [], ◌∷◌, ◌++◌, filter, map, Option, find}
use Rattle.std.specs.Bool.{⊤}
use Rattle.std.specs.List.{AllByRecursion, IsDistinct}
use Rattle.std.specs.Option.{option_map}
use Rattle.hdfs_values.specs.Text.{same}
use Rattle.lease_manager.specs.declared.leases.LeaseState.{LeaseState}
use Rattle.lease_manager.specs.declared.leases.LeaseState.TheVariants.{Live, PastSoft, PastHard}

-- a client that has a lease, and the moment at which it last renewed it
pub record Renewal : Type 0 where
  pub client : List ℕ
  pub moment : ℕ

-- in milliseconds
pub record Limits : Type 0 where
  pub soft : ℕ
  pub hard : ℕ

pub record Leases : Type 0 where
  pub limits : Limits
  pub renewals : List Renewal

-- ---- a list of renewals

-- without the client; the others keep their order
abbrev pub renewals_without : List ℕ → List Renewal → List Renewal
renewals_without client renewals = filter (λ renewal. not (same client renewal.client)) renewals

-- with the client at the end, whether it was there or not; the others keep their order
abbrev pub renewals_with : List ℕ → ℕ → List Renewal → List Renewal
renewals_with client now renewals = renewals_without client renewals ++ record { client = client; moment = now } ∷ []

abbrev pub renewal_of : List ℕ → List Renewal → Option Renewal
renewal_of client renewals = find (λ renewal. same client renewal.client) renewals

-- the latest moment, 0 where there is none
abbrev pub latest_moment : List Renewal → ℕ
latest_moment [] = 0
latest_moment (renewal ∷ others) = max renewal.moment (latest_moment others)

abbrev pub clients : List Renewal → List (List ℕ)
clients renewals = map (λ renewal. renewal.client) renewals

-- moments don't fall along the list
abbrev pub AreInOrder : List Renewal → Type 0
AreInOrder [] = ⊤
AreInOrder (renewal ∷ later) = AllByRecursion (λ other. renewal.moment ≤ other.moment) later × AreInOrder later

-- no client is there twice, and the oldest renewal is first
abbrev pub AreRenewals : List Renewal → Type 0
AreRenewals renewals = IsDistinct same (clients renewals) × AreInOrder renewals

-- ---- ages and limits

-- 0 for a renewal that is yet to come
abbrev pub age : ℕ → ℕ → ℕ
age last now = now - last

-- the hard limit is asked first
abbrev pub lease_state : Limits → ℕ → ℕ → LeaseState
lease_state limits last now =
    if nat_lt limits.hard (age last now) then PastHard else (if nat_lt limits.soft (age last now) then PastSoft else Live)

abbrev pub renewals_past_hard : Limits → ℕ → List Renewal → List Renewal
renewals_past_hard limits now renewals = filter (λ renewal. nat_lt limits.hard (age renewal.moment now)) renewals

-- ---- the leases of a NameNode

abbrev pub state_of : Leases → List ℕ → ℕ → Option LeaseState
state_of leases client now = option_map (λ renewal. lease_state leases.limits renewal.moment now) (renewal_of client leases.renewals)

abbrev pub after_renewal : Leases → List ℕ → ℕ → Leases
after_renewal leases client now = record leases { renewals = renewals_with client now leases.renewals }

abbrev pub after_release : Leases → List ℕ → Leases
after_release leases client = record leases { renewals = renewals_without client leases.renewals }
