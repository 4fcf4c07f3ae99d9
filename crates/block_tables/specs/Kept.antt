-- What the index of the blocks of each node keeps.
use Rattle.std.specs.Prelude.{◌≡◌, ℕ, ◌-◌, Bool, List, Some, filter, length, if◌then◌else◌}
use Rattle.std.specs.Map.{keys_of}
use Rattle.block_records.specs.Numbers.{has_number, entry_at}
use Rattle.block_records.specs.Verdicts.{holds_by}
use Rattle.block_records.specs.declared.block_record.BlockRecord.{BlockRecord}
use Rattle.block_index.specs.Relation.{relates}

abbrev pub holds : List (ℕ × BlockRecord) → ℕ → ℕ → Bool
holds table node block = holds_by node (entry_at block table)

-- the index has for each node the blocks that it holds
abbrev pub IsIndexed : List (ℕ × BlockRecord) → List (ℕ × List ℕ) → Type 0
IsIndexed table index = (node block : ℕ) → relates index node block ≡ holds table node block

-- the blocks that a node is to hold or reported, by their numbers
abbrev pub blocks_on : List (ℕ × BlockRecord) → ℕ → List ℕ
blocks_on table node = keys_of (filter (λ entry. holds_by node (Some entry.1)) table)

abbrev pub load : List (ℕ × BlockRecord) → ℕ → ℕ
load table node = length (blocks_on table node)

-- the same, where some nodes have a block less
abbrev pub load_without : List (ℕ × BlockRecord) → List ℕ → ℕ → ℕ
load_without table leaving node = if has_number node leaving then load table node - 1 else load table node
