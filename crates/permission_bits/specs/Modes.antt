-- The modes of a block access token as bits, and their text: 1 to read, 2 to write. (HADOOP-4359.)
use Rattle.std.specs.Prelude.{ℕ, Bool, List, [], ◌∷◌, ◌&&◌, nat_le, if◌then◌else◌, Option, Some, None}
use Rattle.permission_bits.specs.Rights as rights
use Rattle.permission_bits.specs.declared.modes.Modes.{Modes}

abbrev pub modes : ℕ → Modes
modes bits = record { 0 = bits }

-- a token allows something
abbrev pub is_modes : ℕ → Bool
is_modes bits = nat_le 1 bits && nat_le bits 3

abbrev pub modes_of : ℕ → Option Modes
modes_of bits = if is_modes bits then Some (modes bits) else None

abbrev pub modes_text : ℕ → List ℕ
modes_text bits = rights.letter bits 1 114 ∷ rights.letter bits 2 119 ∷ []
