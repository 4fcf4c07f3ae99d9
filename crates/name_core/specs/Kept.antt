-- What a core keeps: its history is legal, and its state is what the history gives.
use Rattle.std.specs.Prelude.{◌≡◌, ◌≤◌, List, [], reverse}
use Rattle.lease_manager.specs.Leases.{latest_moment}
use Rattle.history.specs.declared.entry.HistoryEntry.{HistoryEntry}
use Rattle.history.specs.Config.{Opening, limits_of}
use Rattle.history.specs.ClockAndLease.{clock_of, last_renewal}
use Rattle.history.specs.Keys.{ring_of}
use Rattle.history.specs.State.{blocks_of}
use Rattle.history.specs.Grants.{ledger_of}
use Rattle.history.specs.State.{rows_of, users_of}
use Rattle.history.specs.LegalHistory.{IsLegal}
use Rattle.namesystem.specs.declared.namesystem.Namesystem.{Namesystem}
use Rattle.name_core.specs.declared.namenode.NameCore.TheInside.{Inside}
use Rattle.name_core.specs.NameCore.{NameCore}
use Rattle.file_effects.specs.Effected.{IsExact}

abbrev pub entries_of : Inside → List HistoryEntry
entries_of core = reverse core.history.items

abbrev pub opening_of : Inside → Opening
opening_of core = record { config = core.config; key = core.first_key }

abbrev pub core_of : Inside → NameCore
core_of core = record { opening = opening_of core; entries = entries_of core }

pub record IsKept (core : Inside) : Type 0 where
  pub legal : IsLegal (opening_of core) (entries_of core)
  pub clock : core.clock ≡ clock_of (entries_of core)
  pub tree : core.system.tree ≡ rows_of (opening_of core) (entries_of core)
  pub users : core.system.users ≡ users_of (entries_of core)
  pub ring : core.system.ring ≡ ring_of (opening_of core) (entries_of core)
  pub blocks : core.system.blocks ≡ blocks_of (opening_of core) (entries_of core)
  pub ledger : core.ledger.rows ≡ ledger_of (opening_of core) (entries_of core)
  -- of each client how many files it has open, and its lease
  pub exact : IsExact (last_renewal (entries_of core)) core.system.tree core.system.writers
  pub limits : core.system.writers.leases.limits ≡ limits_of core.config
  pub latest : latest_moment core.system.writers.leases.renewals ≤ core.clock

-- what a core opens with is what a history without entries gives
pub record IsOpened (opening : Opening) (system : Namesystem) : Type 0 where
  pub tree : system.tree ≡ rows_of opening []
  pub users : system.users ≡ users_of []
  pub ring : system.ring ≡ ring_of opening []
  pub blocks : system.blocks ≡ blocks_of opening []
  pub exact : IsExact (last_renewal []) system.tree system.writers
  pub limits : system.writers.leases.limits ≡ limits_of opening.config
  pub latest : latest_moment system.writers.leases.renewals ≤ clock_of []
