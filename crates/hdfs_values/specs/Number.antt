-- Numbers in decimal digits; leading zeros are allowed.
use Rattle.std.specs.Prelude.{ℕ, ◌^◌, Bool, List, length, nat_lt, ◌&&◌, if◌then◌else◌, Option, Some, None}
use Rattle.std.specs.Char.{is_ascii_digit}
use Rattle.std.specs.List.{list_all}
use Rattle.std.specs.Str.Parse.{digits_value}

abbrev pub is_number_text : List ℕ → Bool
is_number_text text = nat_lt 0 (length text) && list_all is_ascii_digit text

-- the number below 2^64 that a text spells
abbrev pub number_of : List ℕ → Option ℕ
number_of text = if is_number_text text && nat_lt (digits_value 10 text) (2 ^ 64) then Some (digits_value 10 text) else None
