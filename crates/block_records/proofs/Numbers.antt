-- Numbers as keys of tables and in lists.
use Rattle.std.proofs.Common.{◌≡◌, ℕ, true, refl}
use Rattle.std.specs.Ordering.{is_eq, nat_cmp}
use Rattle.std.specs.declared.cmp.Ordering.{Ordering}
use Rattle.std.specs.declared.cmp.Ordering.TheVariants.{Less, Equal, Greater}
use Rattle.std.proofs.lemmas.Map.Lookups.{exact_unsigned}
use Rattle.block_records.specs.Numbers.{is_number}

equal_is : (o : Ordering) → is_eq o ≡ true → o ≡ Equal
equal_is Less h = cc
equal_is Equal h = refl
equal_is Greater h = cc

-- a key that passes is the number
pub number_is : (a b : ℕ) → is_number a b ≡ true → a ≡ b
number_is a b h = exact_unsigned a b (equal_is (nat_cmp a b) h)
