-- What a table of files has where a file comes in for what stood at a path.
use Rattle.std.specs.Prelude.{◌≡◌, ℕ, List, Option}
use Rattle.slab.specs.Slab.{Slab, get}
use Rattle.namespace_rows.specs.declared.file_row.FileRow.{FileRow}
use Rattle.namespace_rows.specs.declared.row.Row.{Row}
use Rattle.namespace_rows.specs.Changes.{rows_under}
use Rattle.file_table.specs.Kept.{are_at_place, get_unless}
use Rattle.inode_files.specs.Rooms.{IsPut}

-- the file is put in, where one is given, and the files of all rows at and beneath the path go out
pub record IsExchanged (path : List (List ℕ)) (rows : List Row) (file : Option FileRow) (old new : Slab FileRow) : Type 0 where
  pub both : Slab FileRow
  pub put : IsPut file old both
  pub gone : (place : ℕ) → get new place ≡ get_unless (are_at_place place (rows_under path rows)) both place
