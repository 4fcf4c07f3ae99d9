-- Files that a client has open, and whose last block isn't unfinished: those are closed at once where the client's lease ends (HDFS
-- Architecture, the single-writer model).
use Rattle.std.specs.Prelude.{ℕ, Bool, false, ◌&&◌, not, is_some, List, map, filter, if◌then◌else◌, Option, Some, None}
use Rattle.file_states.specs.declared.state.FileState.TheVariants.{Closed}
use Rattle.file_blocks.specs.Blocks.{unfinished_block}
use Rattle.namespace_rows.specs.declared.file_row.FileRow.{FileRow}
use Rattle.namespace_rows.specs.declared.row.Row.{Row}
use Rattle.namespace_rows.specs.Files.{with_state, holder_of, is_client}
use Rattle.namespace_rows.specs.Changes.{file_edited}

abbrev pub is_finished_for : List ℕ → FileRow → Bool
is_finished_for client file = is_client client (holder_of file.state) && not (is_some (unfinished_block file.blocks))

abbrev pub is_finished_of : List ℕ → Option FileRow → Bool
is_finished_of client None = false
is_finished_of client (Some file) = is_finished_for client file

abbrev pub closed_for : List ℕ → FileRow → FileRow
closed_for client file = if is_finished_for client file then with_state Closed file else file

abbrev pub finished_files : List ℕ → List Row → List Row
finished_files client rows = filter (λ row. is_finished_of client row.file) rows

abbrev pub with_finished_closed : List ℕ → List Row → List Row
with_finished_closed client rows = map (file_edited (closed_for client)) rows
