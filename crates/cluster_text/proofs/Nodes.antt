-- The DataNodes that pieces name.
use Rattle.std.proofs.Common.{ℕ, List, ◌++◌, Option}
use Rattle.std.specs.Option.{option_map}

-- nodes that were read, and then those that are left
abbrev pub continued : List ℕ → Option (List ℕ) → Option (List ℕ)
continued done found = option_map (λ nodes. done ++ nodes) found
