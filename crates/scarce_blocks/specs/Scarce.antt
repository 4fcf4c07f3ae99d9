-- The blocks that may have to be copied: those that are committed, and that fewer DataNodes reported than there are to be replicas.
-- (HDFS Architecture, "Data Disk Failure, Heartbeats and Re-Replication".)
use Rattle.std.specs.Prelude.{◌≡◌, ◌≤◌, ℕ, Bool, true, false, ◌&&◌, nat_lt, List, filter, length, Option, Some, None}
use Rattle.std.specs.List.{list_any}
use Rattle.std.specs.List.Sorted.{IsStrictlySortedBy}
use Rattle.std.specs.Map.{keys_of}
use Rattle.std.specs.Option.{is_some}
use Rattle.std.specs.Ordering.{nat_cmp}
use Rattle.block_records.specs.Numbers.{is_number, entry_at}
use Rattle.block_records.specs.Verdicts.{holds_by}
use Rattle.block_records.specs.declared.block_record.BlockRecord.{BlockRecord}

-- ---- what the list keeps

-- the block isn't committed, or as many nodes reported it as there are to be replicas, each once
abbrev pub IsAmple : Option BlockRecord → Type 0
IsAmple None = Unit {0}
IsAmple (Some own) = is_some own.committed ≡ true → (own.replication ≤ length own.reports) × IsStrictlySortedBy nat_cmp (keys_of own.reports)

-- so are all blocks but those that are listed
abbrev pub AreAmple : List (ℕ × BlockRecord) → List ℕ → Type 0
AreAmple table scarce = (q : ℕ) → list_any (is_number q) scarce ≡ false → IsAmple (entry_at q table)

-- the same of all blocks but one
abbrev pub AreOthersAmple : ℕ → List (ℕ × BlockRecord) → List ℕ → Type 0
AreOthersAmple block table scarce = (q : ℕ) → is_number block q ≡ false → list_any (is_number q) scarce ≡ false → IsAmple (entry_at q table)

-- ---- what it tells

-- the block is committed, and fewer of these nodes report it than there are to be replicas
abbrev pub is_lacking : List ℕ → Option BlockRecord → Bool
is_lacking live None = false
is_lacking live (Some own) = is_some own.committed && nat_lt (length (filter (λ node. is_some (entry_at node own.reports)) live)) own.replication

-- such blocks of a node are among these
abbrev pub CoversLacking : List (ℕ × BlockRecord) → List ℕ → ℕ → List ℕ → Type 0
CoversLacking table live node blocks = (q : ℕ) → holds_by node (entry_at q table) ≡ true → is_lacking live (entry_at q table) ≡ true → list_any (is_number q) blocks ≡ true
