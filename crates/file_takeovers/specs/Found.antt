-- The file that has a path.
use Rattle.std.specs.Prelude.{Option, Some, None}
use Rattle.namespace_rows.specs.declared.file_row.FileRow.{FileRow}
use Rattle.namespace_rows.specs.declared.row.Row.{Row}

abbrev pub file_in : Option Row → Option FileRow
file_in None = None
file_in (Some row) = row.file
