-- Which nodes hold a block behind a recovery of it, and which only before.
use Rattle.std.specs.Prelude.{◌≡◌, ℕ, ◌&&◌, ◌||◌, not, List, Some, filter}
use Rattle.std.specs.Option.{is_some}
use Rattle.block_records.specs.Numbers.{has_number, entry_at}
use Rattle.block_records.specs.Reports.{others_of}
use Rattle.block_records.specs.Verdicts.{holds_by}
use Rattle.block_records.specs.declared.block_record.BlockRecord.{BlockRecord}

-- those that took part report the block, and those that reported the length
abbrev pub AreRecovered : BlockRecord → ℕ → List ℕ → List (ℕ × ℕ) → Type 0
AreRecovered own length nodes reports =
    (q : ℕ) → is_some (entry_at q reports) ≡ (has_number q nodes || (is_some (entry_at q own.reports) && not (has_number q (others_of length own.reports))))

-- of those that took part the ones that didn't hold it
abbrev pub AreFresh : BlockRecord → List ℕ → List ℕ → Type 0
AreFresh own nodes fresh = fresh ≡ filter (λ node. not (holds_by node (Some own))) nodes

-- those that held it and don't report it any more
abbrev pub AreGone : BlockRecord → List (ℕ × ℕ) → List ℕ → Type 0
AreGone own reports gone = (q : ℕ) → has_number q gone ≡ (holds_by q (Some own) && not (is_some (entry_at q reports)))
