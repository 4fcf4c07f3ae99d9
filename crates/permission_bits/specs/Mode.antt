-- The permission bits of a file or directory: three bits each for the owner, the group and others, and the sticky bit.
-- (HDFS Permissions Guide, "Overview".)
use Rattle.std.specs.Prelude.{ℕ, ◌+◌, ◌-◌, ◌*◌, ◌/◌, ◌%◌, Bool, List, [], ◌∷◌, length, nat_lt, nat_le, ◌&&◌, if◌then◌else◌, Option, Some, None}
use Rattle.std.specs.List.{list_all}
use Rattle.std.specs.Int.RustNames.{bit_or}

abbrev pub is_octal : ℕ → Bool
is_octal byte = nat_le 48 byte && nat_le byte 55

-- the number that octal digits spell, after the number so far
abbrev pub octal_onto : ℕ → List ℕ → ℕ
octal_onto number [] = number
octal_onto number (byte ∷ text) = octal_onto (number * 8 + (byte - 48)) text

-- up to octal 1777
abbrev pub is_mode : ℕ → Bool
is_mode bits = nat_le bits 1023

-- 1 to 4 octal digits, of a mode
abbrev pub is_mode_text : List ℕ → Bool
is_mode_text text = nat_lt 0 (length text) && nat_le (length text) 4 && list_all is_octal text && is_mode (octal_onto 0 text)

-- the mode that a text spells
abbrev pub mode_of : List ℕ → Option ℕ
mode_of text = if is_mode_text text then Some (octal_onto 0 text) else None

-- as it is printed, in four octal digits
abbrev pub mode_text : ℕ → List ℕ
mode_text mode = (48 + mode / 512 % 8) ∷ (48 + mode / 64 % 8) ∷ (48 + mode / 8 % 8) ∷ (48 + mode % 8) ∷ []

abbrev pub user_bits : ℕ → ℕ
user_bits mode = mode / 64 % 8

abbrev pub group_bits : ℕ → ℕ
group_bits mode = mode / 8 % 8

abbrev pub other_bits : ℕ → ℕ
other_bits mode = mode % 8

abbrev pub is_sticky : ℕ → Bool
is_sticky mode = nat_le 512 mode

abbrev pub without_sticky : ℕ → ℕ
without_sticky mode = mode % 512

-- a directory made on the way to another: without the sticky bit, and open to its owner by octal 0300
abbrev pub for_missing_parent : ℕ → ℕ
for_missing_parent mode = bit_or (without_sticky mode) 192
