-- A user's name is ASCII, and so it is a text.
use Rattle.std.proofs.Common.{◌≡◌, ℕ, zero, suc, ◌<◌, true, List, [], ◌∷◌, get_or, arith}
use Rattle.std.specs.List.{list_all}
use Rattle.std.specs.Str.{IsUtf8}
use Rattle.std.proofs.lemmas.Bool.Decides.{nat_tests}
use Rattle.std.proofs.lemmas.Str.{IsUtf8-from_ascii}
use Rattle.hdfs_values.specs.Who.{is_who, is_who_byte}

low_bytes : (bytes : List ℕ) → list_all is_who_byte bytes ≡ true → (i : ℕ) → get_or bytes i 0 < 128
low_bytes [] h i = omega arith
low_bytes (b ∷ bytes) h zero = grind (arith, nat_tests)
low_bytes (b ∷ bytes) h (suc i) = low_bytes bytes (grind (arith, nat_tests)) i

all_of : (bytes : List ℕ) → is_who bytes ≡ true → list_all is_who_byte bytes ≡ true
all_of bytes h = grind (arith, nat_tests)

pub name_is_text : (bytes : List ℕ) → true ≡ is_who bytes → IsUtf8 bytes
name_is_text bytes h = IsUtf8-from_ascii bytes (low_bytes bytes (all_of bytes (grind (arith, nat_tests))))
