-- Where a DataNode stands in a table of nodes by ascending ids, or where it would stand.
use Rattle.std.specs.Prelude.{◌≡◌, ℕ, zero, suc, List, [], ◌∷◌, ⊤}
use Rattle.std.specs.Ordering.{nat_cmp}
use Rattle.std.specs.declared.cmp.Ordering.TheVariants.{Less, Equal, Greater}

-- the entry there is the node's, and the node is above all before it
abbrev pub IsPlace : {X : Type 0} → ℕ → List (ℕ × X) → ℕ → Type 0
IsPlace node [] at = ⊥
IsPlace node (entry ∷ table) zero = nat_cmp node entry.0 ≡ Equal
IsPlace node (entry ∷ table) (suc at) = (nat_cmp node entry.0 ≡ Greater) × IsPlace node table at

-- the node is above all before that place, and below the entry there
abbrev pub IsGap : {X : Type 0} → ℕ → List (ℕ × X) → ℕ → Type 0
IsGap node [] zero = ⊤
IsGap node [] (suc at) = ⊥
IsGap node (entry ∷ table) zero = nat_cmp node entry.0 ≡ Less
IsGap node (entry ∷ table) (suc at) = (nat_cmp node entry.0 ≡ Greater) × IsGap node table at
