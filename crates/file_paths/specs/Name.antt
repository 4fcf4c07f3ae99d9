-- A component of a path: 1 to 255 bytes, none of which is a slash, a colon, NUL or a line feed, and neither `.` nor `..`.
-- That the bytes are UTF-8 is kept by the type of texts, and not said here.
-- (HDFS Architecture, "The File System Namespace"; the slash, the colon and the dots are those of `DFSUtil.isValidName`, the
-- limit is `dfs.namenode.fs-limits.max-component-length`; NUL and line feed are this project's choice.)
use Rattle.std.specs.Prelude.{ℕ, Bool, false, List, [], ◌∷◌, length, nat_lt, nat_le, ◌==◌, ◌&&◌, not, if◌then◌else◌, Option, Some, None, IsTrue}
use Rattle.std.specs.List.{list_all}

abbrev pub is_name_byte : ℕ → Bool
is_name_byte byte = not (byte == 47) && not (byte == 58) && not (byte == 0) && not (byte == 10)

-- the text `.` or `..`
abbrev pub is_dots : List ℕ → Bool
is_dots (b ∷ []) = b == 46
is_dots (b ∷ c ∷ []) = b == 46 && c == 46
is_dots _ = false

abbrev pub is_name : List ℕ → Bool
is_name text = nat_lt 0 (length text) && nat_le (length text) 255 && list_all is_name_byte text && not (is_dots text)

abbrev pub IsName : List ℕ → Type 0
IsName text = IsTrue (is_name text)

-- the name that a text spells: itself
abbrev pub name_of : List ℕ → Option (List ℕ)
name_of text = if is_name text then Some text else None
