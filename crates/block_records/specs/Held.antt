-- The reports of a block, and a set of nodes, as their values hold them.
use Rattle.std.specs.Prelude.{◌≤◌, ℕ, List, [], ◌∷◌, take}
use Rattle.std.specs.Bool.{⊤}
use Rattle.block_records.specs.declared.reports.Held.{Held}
use Rattle.block_records.specs.declared.reports.Held.TheVariants.{Nothing, One, Several}
use Rattle.block_records.specs.declared.node_set.Listed.{Listed}
use Rattle.block_records.specs.declared.node_set.Listed.TheVariants as listed

-- the reports that a value holds, by the nodes' ids
abbrev pub held_reports : Held → List (ℕ × ℕ)
held_reports Nothing = []
held_reports (One report) = report ∷ []
held_reports (Several reports) = reports.items

-- the nodes that a value holds, by their ids
abbrev pub listed_nodes : Listed → List ℕ
listed_nodes (listed.Few count nodes) = take count nodes
listed_nodes (listed.Several nodes) = nodes.items

-- at most three stand in the value
abbrev pub IsListed : Listed → Type 0
IsListed (listed.Few count nodes) = count ≤ 3
IsListed (listed.Several nodes) = ⊤
