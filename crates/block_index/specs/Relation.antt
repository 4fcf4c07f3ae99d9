-- Which DataNodes have to do with which blocks: for each node a list of blocks.
use Rattle.std.specs.Prelude.{◌≡◌, ℕ, Bool, List, [], Option, unwrap_or}
use Rattle.std.specs.List.{list_any}
use Rattle.block_records.specs.Numbers.{is_number, entry_at}

abbrev pub blocks_at : List (ℕ × List ℕ) → ℕ → List ℕ
blocks_at table node = unwrap_or (entry_at node table) []

abbrev pub relates : List (ℕ × List ℕ) → ℕ → ℕ → Bool
relates table node block = list_any (is_number block) (blocks_at table node)

-- for each node the blocks are listed beside which a table has it
abbrev pub IsIndexBy : {X : Type 0} → (ℕ → Option X → Bool) → List (ℕ × X) → List (ℕ × List ℕ) → Type 0
IsIndexBy has table index = (node block : ℕ) → relates index node block ≡ has node (entry_at block table)
