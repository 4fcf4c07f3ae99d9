-- How the table of blocks changes.
use Rattle.std.specs.Prelude.{ℕ, List, [], fold, Option, Some, None}
use Rattle.std.specs.BTreeMap.{insert_entry}
use Rattle.std.specs.Map.{set_value, remove_entry}
use Rattle.std.specs.Ordering.{nat_cmp}
use Rattle.block_records.specs.Numbers.{is_number, entry_at}
use Rattle.block_records.specs.Reports.{agreeing_reports, with_reports_of}
use Rattle.block_records.specs.Verdicts.{verdict_by}
use Rattle.block_records.specs.declared.block_record.BlockRecord.{BlockRecord}
use Rattle.block_records.specs.declared.report.ReportVerdict.{ReportVerdict}
use Rattle.block_records.specs.declared.report.ReportVerdict.TheVariants.{Valid}

-- the table with another record of a block that is known
abbrev pub changed_by : (BlockRecord → BlockRecord) → ℕ → Option BlockRecord → List (ℕ × BlockRecord) → List (ℕ × BlockRecord)
changed_by change block None table = table
changed_by change block (Some own) table = set_value (is_number block) table (change own)

abbrev pub with_record_changed : (BlockRecord → BlockRecord) → ℕ → List (ℕ × BlockRecord) → List (ℕ × BlockRecord)
with_record_changed change block table = changed_by change block (entry_at block table) table

abbrev pub with_report : ℕ → ℕ → BlockRecord → BlockRecord
with_report node length own = record own { reports = insert_entry nat_cmp own.reports node length }

abbrev pub valid_by : ReportVerdict → ℕ → ℕ → BlockRecord → BlockRecord
valid_by Valid node length own = with_report node length own
valid_by _ node length own = own

-- the same where the report is valid, and else nothing
abbrev pub with_valid_report : ℕ → ℕ → ℕ → BlockRecord → BlockRecord
with_valid_report node stamp length own = valid_by (verdict_by (Some own) stamp length) node length own

abbrev pub without_report : ℕ → BlockRecord → BlockRecord
without_report node own = record own { reports = remove_entry (is_number node) own.reports }

abbrev pub with_replication : ℕ → BlockRecord → BlockRecord
with_replication replication own = record own { replication = replication }

-- of the nodes that reported the block those are left that reported the committed length
abbrev pub with_length : ℕ → BlockRecord → BlockRecord
with_length length own = record own { committed = Some length; reports = agreeing_reports length own.reports }

-- a newer stamp, which nobody has reported, and a recovery that runs from now on
abbrev pub with_recovery : ℕ → ℕ → BlockRecord → BlockRecord
with_recovery stamp now own = record own { stamp = stamp; reports = []; recovering = Some now }

-- the recovery has ended with this length: these nodes are to hold the block, and they report it, as do those that reported that length
abbrev pub with_recovered : ℕ → List ℕ → BlockRecord → BlockRecord
with_recovered length nodes own =
    record own { committed = Some length; recovering = None; expected = nodes; reports = with_reports_of nodes length (agreeing_reports length own.reports) }

-- a node was told to copy the block
abbrev pub with_hand_out : ℕ → BlockRecord → BlockRecord
with_hand_out now own = record own { handed_out = Some now }

abbrev pub with_hand_outs : ℕ → List (ℕ × BlockRecord) → List ℕ → List (ℕ × BlockRecord)
with_hand_outs now table blocks = fold (λ told block. with_record_changed (with_hand_out now) block told) table blocks

-- the table without these blocks
abbrev pub without_blocks : List (ℕ × BlockRecord) → List ℕ → List (ℕ × BlockRecord)
without_blocks table blocks = fold (λ left block. remove_entry (is_number block) left) table blocks
