-- What the counters of blocks keep, and the list of the recoveries that run.
use Rattle.std.specs.Prelude.{◌≡◌, ◌<◌, ℕ, Bool, true, false, is_some, List, Option, Some, None}
use Rattle.std.specs.List.{list_any}
use Rattle.block_records.specs.Numbers.{is_number, entry_at}
use Rattle.block_records.specs.declared.block_record.BlockRecord.{BlockRecord}
use Rattle.recovery_queue.specs.declared.begun.BegunRecovery.{BegunRecovery}

-- the number that is given next stands above those of the blocks that are known
abbrev pub AreBelow : List (ℕ × BlockRecord) → ℕ → Type 0
AreBelow table next = (block : ℕ) → is_some (entry_at block table) ≡ true → block < next

abbrev pub is_recovering_by : Option BlockRecord → Bool
is_recovering_by None = false
is_recovering_by (Some own) = is_some own.recovering

-- each block that is being recovered is listed
abbrev pub AreListed : List (ℕ × BlockRecord) → List ℕ → Type 0
AreListed table running = (block : ℕ) → is_recovering_by (entry_at block table) ≡ true → list_any (is_number block) running ≡ true

-- a recovery of the block is among these
abbrev pub is_begun : ℕ → List BegunRecovery → Bool
is_begun block recoveries = list_any (λ own. is_number own.block block) recoveries
