-- Whether there is any file among rows.
use Rattle.std.specs.Prelude.{Bool, List, is_some}
use Rattle.std.specs.List.{list_any}
use Rattle.namespace_rows.specs.declared.row.Row.{Row}

abbrev pub has_files : List Row → Bool
has_files rows = list_any (λ row. is_some row.file) rows
