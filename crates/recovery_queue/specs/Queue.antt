-- The recoveries of blocks that their primary DataNodes are still to be told of: each block at most once, with its primary, by the id.
-- (HDFS-265: the NameNode has one DataNode lead the recovery of a block.)
use Rattle.std.specs.Prelude.{ℕ, Bool, false, not, List, filter, fold, Option, Some, None}
use Rattle.std.specs.BTreeMap.{insert_entry}
use Rattle.std.specs.Map.{keys_of, remove_entry}
use Rattle.std.specs.Ordering.{nat_cmp}
use Rattle.block_records.specs.Numbers.{is_number}
use Rattle.block_index.specs.Relation.{IsIndexBy}
use Rattle.recovery_queue.specs.declared.begun.BegunRecovery.{BegunRecovery}

-- a recovery of the block that waits for another node is dropped
abbrev pub put : List (ℕ × ℕ) → ℕ → ℕ → List (ℕ × ℕ)
put queue block primary = insert_entry nat_cmp queue block primary

-- the same of many blocks, in this order
abbrev pub all_put : List (ℕ × ℕ) → List BegunRecovery → List (ℕ × ℕ)
all_put queue begun = fold (λ left own. put left own.block own.primary) queue begun

abbrev pub without_recovery : List (ℕ × ℕ) → ℕ → List (ℕ × ℕ)
without_recovery queue block = remove_entry (is_number block) queue

abbrev pub without_each : List (ℕ × ℕ) → List ℕ → List (ℕ × ℕ)
without_each queue blocks = fold without_recovery queue blocks

-- a node is to lead a recovery
abbrev pub leads : ℕ → ℕ × ℕ → Bool
leads node entry = is_number entry.1 node

-- the blocks whose recovery a node is to lead, by their ids
abbrev pub led_by : ℕ → List (ℕ × ℕ) → List ℕ
led_by node queue = keys_of (filter (leads node) queue)

-- the node was told of them
abbrev pub without_led_by : List (ℕ × ℕ) → ℕ → List (ℕ × ℕ)
without_led_by queue node = filter (λ entry. not (leads node entry)) queue

-- ---- what the queue keeps

abbrev pub is_led : ℕ → Option ℕ → Bool
is_led node None = false
is_led node (Some primary) = is_number primary node

-- the index has for each node the blocks whose recovery it is to lead
abbrev pub IsQueueIndexed : List (ℕ × ℕ) → List (ℕ × List ℕ) → Type 0
IsQueueIndexed queue index = IsIndexBy is_led queue index
