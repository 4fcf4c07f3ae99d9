-- Which files a table keeps for the rows of nodes: one for each node that is a file, at the place that its own row tells, and no other.
use Rattle.std.specs.Prelude.{◌≡◌, ◌==◌, ℕ, Bool, true, false, List, length, filter, is_some, if◌then◌else◌, Option, Some, None}
use Rattle.std.specs.List.{list_any}
use Rattle.slab.specs.Slab.{Slab, get}
use Rattle.namespace_rows.specs.declared.file_row.FileRow.{FileRow}
use Rattle.namespace_rows.specs.declared.row.Row.{Row}
use Rattle.file_table.specs.Place.{place_in}

-- what the own row of a node tells of a file is this place
abbrev pub is_at_place : ℕ → Option FileRow → Bool
is_at_place place None = false
is_at_place place (Some own) = place_in own == place

abbrev pub rows_at_place : ℕ → List Row → List Row
rows_at_place place rows = filter (λ row. is_at_place place row.file) rows

abbrev pub are_at_place : ℕ → List Row → Bool
are_at_place place rows = list_any (λ row. is_at_place place row.file) rows

-- how many files the table has at a place: one or none
abbrev pub held_count : Slab FileRow → ℕ → ℕ
held_count files place = if is_some (get files place) then 1 else 0

abbrev pub AreKept : Slab FileRow → List Row → Type 0
AreKept files rows = (place : ℕ) → length (rows_at_place place rows) ≡ held_count files place

-- what the table has at a place, unless that was taken out
abbrev pub get_unless : Bool → Slab FileRow → ℕ → Option FileRow
get_unless true files place = None
get_unless false files place = get files place
