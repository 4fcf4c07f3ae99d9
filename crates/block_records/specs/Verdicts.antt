-- What a report of a replica amounts to, and which nodes hold a block.
use Rattle.std.specs.Prelude.{ℕ, ◌==◌, Bool, true, false, ◌&&◌, ◌||◌, is_some, nat_lt, if◌then◌else◌, Option, Some, None}
use Rattle.block_records.specs.Numbers.{has_number, entry_at}
use Rattle.block_records.specs.declared.block_record.BlockRecord.{BlockRecord}
use Rattle.block_records.specs.declared.report.ReportVerdict.{ReportVerdict}
use Rattle.block_records.specs.declared.report.ReportVerdict.TheVariants.{Superseded, Invalid, Valid}

-- a node is to hold a block, or reported it
abbrev pub holds_by : ℕ → Option BlockRecord → Bool
holds_by node None = false
holds_by node (Some own) = has_number node own.expected || is_some (entry_at node own.reports)

-- the length isn't another one than that which is committed
abbrev pub agrees : ℕ → Option ℕ → Bool
agrees length None = true
agrees length (Some committed) = length == committed

-- A replica of a block that isn't known is invalid. A report from before a recovery that runs does nothing. A replica of another
-- stamp than the newest, or of another length than the committed one, is invalid.
abbrev pub verdict_by : Option BlockRecord → ℕ → ℕ → ReportVerdict
verdict_by None stamp length = Invalid
verdict_by (Some own) stamp length =
    if nat_lt stamp own.stamp && is_some own.recovering then Superseded
    else (if (stamp == own.stamp) && agrees length own.committed then Valid else Invalid)
