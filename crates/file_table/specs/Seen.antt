-- How rows whose files have places are seen as rows of the namespace, with the table that has these files.
use Rattle.std.specs.Prelude.{ℕ, List, map, Option, Some, None}
use Rattle.slab.specs.Slab.{Slab, get}
use Rattle.namespace_rows.specs.declared.file_row.FileRow.{FileRow}
use Rattle.namespace_rows.specs.declared.row.Row.{Row}
use Rattle.namespace_rows.specs.Changes.{with_file}
use Rattle.file_table.specs.Place.{place_in}

-- what the table has of a file, by what its own row tells
abbrev pub file_held : Slab FileRow → Option FileRow → Option FileRow
file_held files None = None
file_held files (Some own) = get files (place_in own)

abbrev pub seen : Slab FileRow → Row → Row
seen files row = with_file (file_held files row.file) row

abbrev pub seen_rows : Slab FileRow → List Row → List Row
seen_rows files rows = map (seen files) rows
