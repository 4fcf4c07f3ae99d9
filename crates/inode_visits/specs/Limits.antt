-- Whether paths stay within the limits behind another front.
use Rattle.std.specs.Prelude.{ℕ, ◌+◌, Bool, ◌&&◌, nat_le, List, length}
use Rattle.std.specs.List.{flat_map}
use Rattle.file_paths.specs.Path.{component}
use Rattle.namespace_rows.specs.declared.row.Row.{Row}

-- the bytes of a path's text, a slash before each name
abbrev pub bytes_of : List (List ℕ) → ℕ
bytes_of path = length (flat_map component path)

-- the path of the row is within the limits behind a front of so many names and bytes
abbrev pub fits_behind : ℕ → ℕ → Row → Bool
fits_behind depth bytes row = nat_le (depth + length row.path) 1000 && nat_le (bytes + bytes_of row.path) 8000
