-- A path is a list of names, the root the empty one. Its text has a slash before each name, and the root's is one slash.
-- (HDFS Architecture, "The File System Namespace"; the limits are MAX_PATH_LENGTH and MAX_PATH_DEPTH of
-- `HdfsServerConstants`, the first here in bytes.)
use Rattle.std.specs.Prelude.{◌≢◌, ℕ, Bool, true, false, List, [], ◌∷◌, length, take, nat_le, ◌==◌, ◌&&◌, if◌then◌else◌, Option, Some, None, IsTrue}
use Rattle.std.specs.List.{list_all, flat_map, slice_split}
use Rattle.hdfs_values.specs.Text.{same}
use Rattle.file_paths.specs.Name.{is_name}

-- a name with the slash before it
abbrev pub component : List ℕ → List ℕ
component name = 47 ∷ name

abbrev pub path_text : List (List ℕ) → List ℕ
path_text [] = 47 ∷ []
path_text (name ∷ names) = flat_map component (name ∷ names)

-- at most 1,000 names, 8,000 bytes in all
abbrev pub is_path : List (List ℕ) → Bool
is_path names = nat_le (length names) 1000 && nat_le (length (path_text names)) 8000 && list_all is_name names

abbrev pub IsPath : List (List ℕ) → Type 0
IsPath names = IsTrue (is_path names)

abbrev pub is_slash : ℕ → Bool
is_slash byte = byte == 47

-- the path of such names, if it is one
abbrev pub path_of_names : List (List ℕ) → Option (List (List ℕ))
path_of_names names = if is_path names then Some names else None

-- the path whose text is a slash and then this: its names stand between slashes
abbrev pub path_after_slash : List ℕ → Option (List (List ℕ))
path_after_slash [] = Some []
path_after_slash (byte ∷ text) = path_of_names (slice_split is_slash (byte ∷ text))

-- the path that a text spells: absolute, with no slash at its end and none twice
abbrev pub path_of : List ℕ → Option (List (List ℕ))
path_of [] = None
path_of (byte ∷ text) = if byte == 47 then path_after_slash text else None

-- no slash stands at the front
abbrev pub IsRelative : List ℕ → Type 0
IsRelative text = (rest : List ℕ) → text ≢ 47 ∷ rest

-- the path without its last name; the root has no parent
abbrev pub parent_of : List (List ℕ) → Option (List (List ℕ))
parent_of [] = None
parent_of (name ∷ names) = Some (take (length names) (name ∷ names))

-- the first path is the second or above it
abbrev pub is_prefix : List (List ℕ) → List (List ℕ) → Bool
is_prefix [] path = true
is_prefix (name ∷ names) [] = false
is_prefix (name ∷ names) (other ∷ others) = same name other && is_prefix names others

-- the first path is beneath the second: the second is a proper prefix of it
abbrev pub is_beneath : List (List ℕ) → List (List ℕ) → Bool
is_beneath [] above = false
is_beneath (name ∷ names) [] = true
is_beneath (name ∷ names) (other ∷ others) = same name other && is_beneath names others
