-- How plans are kept: those of the newest block first, since a look-up begins there.
use Rattle.std.specs.Prelude.{ℕ, List, map, reverse}
use Rattle.std.specs.declared.cmp.Reverse.{Reverse}

-- the same table by ascending blocks
abbrev pub in_order : {X : Type 0} → List (Reverse ℕ × X) → List (ℕ × X)
in_order entries = reverse (map (λ entry. (entry.0.0, entry.1)) entries)
