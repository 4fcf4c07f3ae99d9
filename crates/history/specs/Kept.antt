-- How the types of this crate are seen.
use Rattle.history.specs.declared.config.Config.TheInside as config
use Rattle.history.specs.Config.{Config}

abbrev pub settings_of : config.Inside → Config
settings_of inside = record { durations = inside.durations; replica_limit = inside.replica_limit; first = inside.first }

abbrev pub inside_of : Config → config.Inside
inside_of settings = record { durations = settings.durations; replica_limit = settings.replica_limit; first = settings.first }
