-- A number whose bits mark the bytes that no name has, the lowest bit the first byte.
use Rattle.std.specs.Prelude.{ℕ, Bool, not, List, map}
use Rattle.std.specs.Simd.Lanes.{mask_l}
use Rattle.file_paths.specs.Name.{is_name_byte}

-- no name has the byte
abbrev pub ends_name : ℕ → Bool
ends_name byte = not (is_name_byte byte)

abbrev pub marks_of : List ℕ → ℕ
marks_of bytes = mask_l (map ends_name bytes)
