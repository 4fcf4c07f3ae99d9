-- What the own row of a node tells of a file: its place in the table that has what files have beside what directories have.
use Rattle.std.specs.Prelude.{ℕ, []}
use Rattle.file_states.specs.declared.state.FileState.TheVariants.{Closed}
use Rattle.namespace_rows.specs.declared.file_row.FileRow.{FileRow}

-- the place stands where a row of the namespace has the replication
abbrev pub placed : ℕ → FileRow
placed place = record { replication = place; blocks = []; state = Closed }

abbrev pub place_in : FileRow → ℕ
place_in own = own.replication
