-- A namespace is a list of rows in strictly ascending path order: the root first, a directory, and the parent of each other row a directory row. A file has no sticky bit and no default list.
-- (HDFS Architecture, "The File System Namespace".)
use Rattle.std.specs.Prelude.{ℕ, Bool, true, false, ◌&&◌, ◌||◌, List, [], ◌∷◌, IsTrue, Option, Some, None}
use Rattle.std.specs.List.{list_all, list_any}
use Rattle.std.specs.Ordering.{is_lt}
use Rattle.file_paths.specs.Path.{is_prefix}
use Rattle.hdfs_values.specs.Text.{same}
use Rattle.file_paths.specs.PathOrder.{path_cmp, same_path}
use Rattle.acl_entries.specs.Acl.{Acl, suits_file}
use Rattle.namespace_rows.specs.declared.file_row.FileRow.{FileRow}
use Rattle.namespace_rows.specs.declared.row.Row.{Row}
use Rattle.namespace_rows.specs.Rows.{is_directory}

abbrev pub is_before_all : Row → List Row → Bool
is_before_all row rows = list_all (λ other. is_lt (path_cmp row.path other.path)) rows

-- each row stands before all behind it
abbrev pub is_ascending : List Row → Bool
is_ascending [] = true
is_ascending (row ∷ rows) = is_before_all row rows && is_ascending rows

-- the first path is the second and one name more
abbrev pub is_child : List (List ℕ) → List (List ℕ) → Bool
is_child [] above = false
is_child (name ∷ []) [] = true
is_child (name ∷ other ∷ names) [] = false
is_child (name ∷ names) (other ∷ others) = same name other && is_child names others

-- one of the rows is the directory that holds the path
abbrev pub has_parent : List (List ℕ) → List Row → Bool
has_parent path rows = list_any (λ above. is_child path above.path && is_directory above) rows

abbrev pub is_root : List (List ℕ) → Bool
is_root [] = true
is_root (name ∷ names) = false

-- the first row is the root, a directory
abbrev pub is_rooted : List Row → Bool
is_rooted [] = false
is_rooted (row ∷ rows) = is_root row.path && is_directory row

abbrev pub have_parents : List Row → List Row → Bool
have_parents rows all = list_all (λ row. is_root row.path || has_parent row.path all) rows

-- a directory has nothing that files alone have; neither a sticky bit nor a default list stands in the list of a file
abbrev pub suits_parts : Bool → Acl → Option FileRow → Bool
suits_parts true acl None = true
suits_parts true acl (Some file) = false
suits_parts false acl None = false
suits_parts false acl (Some file) = suits_file acl

abbrev pub suits_kind : Row → Bool
suits_kind row = suits_parts (is_directory row) row.acl row.file

abbrev pub is_namespace : List Row → Bool
is_namespace rows = is_rooted rows && is_ascending rows && have_parents rows rows && list_all suits_kind rows

abbrev pub IsNamespace : List Row → Type 0
IsNamespace rows = IsTrue (is_namespace rows)

-- rows that are a sub-tree with its top at the path
abbrev pub is_sub_tree : List (List ℕ) → List Row → Bool
is_sub_tree path rows = list_all (λ row. is_prefix path row.path) rows && is_ascending rows && list_all (λ row. same_path path row.path || has_parent row.path rows) rows && list_all suits_kind rows

-- new rows fit where they are a sub-tree whose top is no root and has a parent among the rows
abbrev pub fits : List Row → List Row → Bool
fits rows [] = true
fits rows (top ∷ beneath) = has_parent top.path rows && is_sub_tree top.path (top ∷ beneath)
