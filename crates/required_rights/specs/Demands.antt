-- How a demand is seen, and what holds of each.
use Rattle.std.specs.Prelude.{Bool, true, false, ◌&&◌, IsTrue, List, [], ◌∷◌}
use Rattle.file_paths.specs.Path.{is_path}
use Rattle.required_rights.specs.declared.demand.Demand.TheInside as demand
use Rattle.required_rights.specs.declared.demand.Listed.{Listed}
use Rattle.required_rights.specs.declared.demand.Listed.TheVariants.{One, Several}
use Rattle.required_rights.specs.declared.demand.Role.{Role}
use Rattle.required_rights.specs.declared.demand.Role.TheVariants.{Final}
use Rattle.required_rights.specs.declared.need.Need.{Need}
use Rattle.required_rights.specs.declared.need.Need.TheVariants.{Rights}
use Rattle.required_rights.specs.RequiredRights.{Demand}

abbrev pub demand_of : demand.Inside → Demand
demand_of demand = record { role = demand.role; path = demand.path.now; condition = demand.condition; need = demand.need; enforcement = demand.enforcement }

abbrev pub is_final : Role → Bool
is_final Final = true
is_final _ = false

-- only rights are needed of other components than the path itself
abbrev pub suits_role : Need → Role → Bool
suits_role (Rights asked) role = true
suits_role need role = is_final role

-- the path of a demand is one, and only rights are needed of other components than the path itself
abbrev pub IsDemand : Demand → Type 0
IsDemand demand = IsTrue (is_path demand.path && suits_role demand.need demand.role)

-- the needs that a value lists
abbrev pub listed_demands : Listed → List Demand
listed_demands (One demand) = demand ∷ []
listed_demands (Several demands) = demands.items
