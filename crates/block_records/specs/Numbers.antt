-- Numbers in lists and as keys: ids of blocks and of DataNodes.
use Rattle.std.specs.Prelude.{ℕ, ◌==◌, Bool, List, Option}
use Rattle.std.specs.BTreeMap.{is_at}
use Rattle.std.specs.List.{list_any}
use Rattle.std.specs.Map.{lookup}
use Rattle.std.specs.Ordering.{nat_cmp}

-- a key is this number
abbrev pub is_number : ℕ → ℕ → Bool
is_number number = is_at (nat_cmp number)

abbrev pub has_number : ℕ → List ℕ → Bool
has_number number numbers = list_any (λ other. other == number) numbers

-- what a table has at a number
abbrev pub entry_at : {X : Type 0} → ℕ → List (ℕ × X) → Option X
entry_at number table = lookup (is_number number) table
