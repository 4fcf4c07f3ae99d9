-- What a change leaves of the rows, and which rows a question about a sub-tree concerns. Each is a filter or a map.
-- (HDFS Architecture, "The File System Namespace".)
use Rattle.std.specs.Prelude.{ℕ, Bool, true, false, ◌||◌, not, List, [], ◌∷◌, ◌++◌, map, filter, length, drop, if◌then◌else◌, Option, Some, None}
use Rattle.std.specs.List.{list_all}
use Rattle.std.specs.Option.{option_map}
use Rattle.file_paths.specs.Path.{is_path, is_prefix}
use Rattle.file_paths.specs.PathOrder.{same_path}
use Rattle.acl_entries.specs.Acl.{suits_file}
use Rattle.namespace_rows.specs.declared.row.Row.{Row}
use Rattle.namespace_rows.specs.declared.row.Change.{Change}
use Rattle.namespace_rows.specs.declared.row.Change.TheVariants as change
use Rattle.namespace_rows.specs.declared.file_row.FileRow.{FileRow}
use Rattle.namespace_rows.specs.Files.{with_state, with_file_replication, with_block, committed_at, completed_at, without_last, state_recovers, recovered_at}
use Rattle.namespace_rows.specs.Rows.{is_directory, rows_replaced}
use Rattle.namespace_rows.specs.Namespace.{is_child}

-- the rows at and beneath a path
abbrev pub rows_under : List (List ℕ) → List Row → List Row
rows_under path rows = filter (λ row. is_prefix path row.path) rows

-- the rows one name beneath a path
abbrev pub children : List (List ℕ) → List Row → List Row
children path rows = filter (λ row. is_child row.path path) rows

abbrev pub last_name : List (List ℕ) → List ℕ
last_name [] = []
last_name (name ∷ []) = name
last_name (name ∷ other ∷ names) = last_name (other ∷ names)

-- their names
abbrev pub child_names : List (List ℕ) → List Row → List (List ℕ)
child_names path rows = map (λ row. last_name row.path) (children path rows)

-- the rows without those at and beneath a path
abbrev pub without : List (List ℕ) → List Row → List Row
without path rows = filter (λ row. not (is_prefix path row.path)) rows

-- a row at or beneath `from`, with `to` in the place of that front of its path
abbrev pub moved_row : List (List ℕ) → List (List ℕ) → Row → Row
moved_row from to row = record row { path = to ++ drop (length from) row.path }

-- the rows in which those at and beneath `from` stand at and beneath `to`
abbrev pub with_rows_moved : List (List ℕ) → List (List ℕ) → List Row → List Row
with_rows_moved from to rows = rows_replaced to (map (moved_row from to) (rows_under from rows)) (without from rows)

abbrev pub with_file : Option FileRow → Row → Row
with_file file row = record row { file = file }

-- a row with what its file has changed; a directory has nothing of that
abbrev pub file_edited : (FileRow → FileRow) → Row → Row
file_edited edit row = with_file (option_map edit row.file) row

-- a row with one of its parts changed; a directory has neither state nor replication nor blocks
abbrev pub with_change : Change → Row → Row
with_change (change.Owner owner group) row = record row { owner = owner; group = group }
with_change (change.List acl) row = record row { acl = acl }
with_change (change.State state) row = with_file (option_map (with_state state) row.file) row
with_change (change.Replication replication) row = with_file (option_map (with_file_replication replication) row.file) row
with_change (change.Committed block bytes) row = file_edited (committed_at block bytes) row
with_change (change.Completed block bytes) row = file_edited (completed_at block bytes) row
with_change change.LastTaken row = file_edited without_last row
with_change (change.Recovered block bytes) row = file_edited (recovered_at block bytes) row

-- the rows with the one at a path changed
abbrev pub row_rewritten : List (List ℕ) → Change → List Row → List Row
row_rewritten path change rows = map (λ row. if same_path path row.path then with_change change row else row) rows

-- the rows with a new block at the end of the file at a path (HDFS Architecture, "Data Replication")
abbrev pub block_added : List (List ℕ) → ℕ → List Row → List Row
block_added path block rows = map (λ row. if same_path path row.path then file_edited (with_block block) row else row) rows

-- the rows with the recovery of a block ended: the file whose state is that has the block's length committed, and is closed
abbrev pub recovery_ended : ℕ → ℕ → List Row → List Row
recovery_ended block bytes rows = map (file_edited (recovered_at block bytes)) rows

abbrev pub is_recovered : ℕ → Option FileRow → Bool
is_recovered block None = false
is_recovered block (Some file) = state_recovers block file.state

-- no file but that at the path has a state that is a recovery of the block
abbrev pub recovers_nowhere_else : List (List ℕ) → ℕ → List Row → Bool
recovers_nowhere_else path block rows = list_all (λ row. same_path path row.path || not (is_recovered block row.file)) rows

-- the change suits what stands there
abbrev pub suits_row : Change → Row → Bool
suits_row (change.Owner owner group) row = true
suits_row (change.List acl) row = is_directory row || suits_file acl
suits_row (change.State state) row = true
suits_row (change.Replication replication) row = true
suits_row (change.Committed block bytes) row = true
suits_row (change.Completed block bytes) row = true
suits_row change.LastTaken row = true
suits_row (change.Recovered block bytes) row = true

abbrev pub suits_change : Change → Option Row → Bool
suits_change change None = true
suits_change change (Some row) = suits_row change row

-- each path is within the limits
abbrev pub are_paths : List Row → Bool
are_paths rows = list_all (λ row. is_path row.path) rows
