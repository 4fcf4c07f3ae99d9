-- What a NameNode opens with.
-- (The limits of leases and of silent DataNodes are this project's choice; the manual lists them.)
use Rattle.std.specs.Prelude.{ℕ, List, ◌-◌, ◌^◌, Bool, nat_lt, IsTrue}
use Rattle.lease_manager.specs.Leases.{Limits}
use Rattle.history.specs.declared.config.Durations.{Durations}
use Rattle.history.specs.declared.config.Counters.{Counters}

pub record Config : Type 0 where
  pub durations : Durations
  -- in bytes
  pub replica_limit : ℕ
  pub first : Counters

-- a key can still be made behind the first
abbrev pub are_counters : Counters → Bool
are_counters first = nat_lt first.serial (2 ^ 32 - 1)

abbrev pub IsConfig : Config → Type 0
IsConfig settings = IsTrue (are_counters settings.first)

abbrev pub standard : Config
standard =
    record {
      durations = record { soft_limit = 60000; hard_limit = 1200000; retry_limit = 60000; dead_limit = 630000; token_lifetime = 36000000 };
      replica_limit = 134217728;
      first = record { block = 1; stamp = 1001; serial = 1 };
    }

-- what a NameNode opens with: its settings, and the bytes of the first key under which tokens are issued
pub record Opening : Type 0 where
  pub config : Config
  pub key : List ℕ

abbrev pub limits_of : Config → Limits
limits_of settings = record { soft = settings.durations.soft_limit; hard = settings.durations.hard_limit }
