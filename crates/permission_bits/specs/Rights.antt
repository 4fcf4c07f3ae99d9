-- Rights as bits, and their text: 4 to read, 2 to write, 1 to execute or traverse.
-- (HDFS Permissions Guide, "Overview"; the letters are those of `ls -l`.)
use Rattle.std.specs.Prelude.{ℕ, ◌+◌, Bool, List, [], ◌∷◌, ◌==◌, if◌then◌else◌, Option, Some, None}
use Rattle.std.specs.Int.RustNames.{bit_and}
use Rattle.permission_bits.specs.declared.rights.Rights.{Rights}

abbrev pub rights : ℕ → Rights
rights bits = record { 0 = bits }

-- every right that is asked is granted
abbrev pub covers : ℕ → ℕ → Bool
covers granted asked = bit_and granted asked == asked

-- the letter where the bit is set, else a dash
abbrev pub letter : ℕ → ℕ → ℕ → ℕ
letter bits bit glyph = if bit_and bits bit == bit then glyph else 45

abbrev pub rights_text : ℕ → List ℕ
rights_text bits = letter bits 4 114 ∷ letter bits 2 119 ∷ letter bits 1 120 ∷ []

-- the bit where the letter stands, nothing for a dash
abbrev pub bit_of : ℕ → ℕ → ℕ → Option ℕ
bit_of byte glyph bit = if byte == glyph then Some bit else (if byte == 45 then Some 0 else None)

abbrev pub sum_of : Option ℕ → Option ℕ → Option ℕ → Option Rights
sum_of (Some read) (Some write) (Some execute) = Some (rights (read + write + execute))
sum_of _ _ _ = None

-- the rights that three letters spell
abbrev pub rights_of : List ℕ → Option Rights
rights_of (read ∷ write ∷ execute ∷ []) = sum_of (bit_of read 114 4) (bit_of write 119 2) (bit_of execute 120 1)
rights_of _ = None
