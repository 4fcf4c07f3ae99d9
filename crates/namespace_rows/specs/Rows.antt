-- A row of the namespace, and which rows a path concerns. Each question is a filter over the rows.
-- (HDFS Architecture, "The File System Namespace".)
use Rattle.std.specs.Prelude.{ℕ, Bool, true, false, ◌&&◌, not, List, [], ◌∷◌, ◌++◌, if◌then◌else◌, Option, Some, None, filter, unwrap_or}
use Rattle.std.specs.List.{last_or}
use Rattle.std.specs.Option.{option_and_then, option_map}
use Rattle.std.specs.Ordering.{is_gt, is_lt}
use Rattle.hdfs_values.specs.Text.{same}
use Rattle.file_paths.specs.Path.{is_beneath, is_prefix, parent_of}
use Rattle.file_paths.specs.PathOrder.{path_cmp, same_path}
use Rattle.file_states.specs.declared.kind.ObjectKind.{ObjectKind}
use Rattle.file_states.specs.declared.kind.ObjectKind.TheVariants.{File, Directory}
use Rattle.namespace_rows.specs.declared.row.Row.{Row}
use Rattle.namespace_rows.specs.First.{first}

abbrev pub is_directory_kind : ObjectKind → Bool
is_directory_kind File = false
is_directory_kind Directory = true

abbrev pub is_directory : Row → Bool
is_directory row = is_directory_kind row.kind

-- the row that has a path
abbrev pub row_at : List (List ℕ) → List Row → Option Row
row_at path rows = first (filter (λ row. same_path path row.path) rows)

abbrev pub is_none : Option Row → Bool
is_none None = true
is_none (Some row) = false

-- nothing has that path
abbrev pub is_missing : List (List ℕ) → List Row → Bool
is_missing path rows = is_none (row_at path rows)

-- the existing directories above a path, from the root down
abbrev pub directories_above : List (List ℕ) → List Row → List Row
directories_above path rows = filter (λ row. is_beneath path row.path && is_directory row) rows

-- the first file above a path
abbrev pub file_above : List (List ℕ) → List Row → Option Row
file_above path rows = first (filter (λ row. is_beneath path row.path && not (is_directory row)) rows)

-- the last existing component above a path
abbrev pub ancestor : List (List ℕ) → List Row → Option Row
ancestor path rows = last_or None (filter (λ row. is_beneath path row.path) rows)

-- the rows of the directory at the path and of the directories beneath it
abbrev pub directories_beneath : List (List ℕ) → List Row → List Row
directories_beneath path rows = filter (λ row. is_prefix path row.path && is_directory row) rows

abbrev pub if_directory : Option Row → Option Row
if_directory None = None
if_directory (Some row) = if is_directory row then Some row else None

-- the directory that holds a path
abbrev pub directory_of : List (List ℕ) → List Row → Option Row
directory_of path rows = if_directory (option_and_then (λ above. row_at above rows) (parent_of path))

-- the owner of the directory that holds a row; the root, which none holds, has its own
abbrev pub owner_above : Row → List Row → List ℕ
owner_above row rows = unwrap_or (option_map (λ above. above.owner) (directory_of row.path rows)) row.owner

abbrev pub is_some_where : (Row → Bool) → Option Row → Bool
is_some_where test None = false
is_some_where test (Some row) = test row

-- a directory has that path
abbrev pub has_directory : List (List ℕ) → List Row → Bool
has_directory path rows = is_some_where is_directory (row_at path rows)

-- a file has that path
abbrev pub has_file : List (List ℕ) → List Row → Bool
has_file path rows = is_some_where (λ row. not (is_directory row)) (row_at path rows)

-- the directory that holds the path has the sticky bit
abbrev pub has_sticky_parent : List (List ℕ) → List Row → Bool
has_sticky_parent path rows = is_some_where (λ row. row.acl.sticky) (directory_of path rows)

-- another than this user owns what has that path
abbrev pub has_other_owner : List ℕ → List (List ℕ) → List Row → Bool
has_other_owner user path rows = is_some_where (λ row. not (same user row.owner)) (row_at path rows)

-- the row stands before the path
abbrev pub is_before : List (List ℕ) → Row → Bool
is_before path row = is_gt (path_cmp path row.path)

-- the row stands behind the path and all that is beneath it
abbrev pub is_beyond : List (List ℕ) → Row → Bool
is_beyond path row = is_lt (path_cmp path row.path) && not (is_prefix path row.path)

-- the rows in which these stand at and beneath the path
abbrev pub rows_replaced : List (List ℕ) → List Row → List Row → List Row
rows_replaced path block rows = filter (is_before path) rows ++ (block ++ filter (is_beyond path) rows)

-- the rows with those of a new sub-tree, the first of which is its top
abbrev pub with_sub_tree : List Row → List Row → List Row
with_sub_tree rows [] = rows
with_sub_tree rows (top ∷ beneath) = rows_replaced top.path (top ∷ beneath) rows
