-- What the end of a recovery of a block leaves.
-- (HDFS-265: the primary DataNode tells the NameNode the length that was agreed on, and the nodes that hold it.)
use Rattle.std.specs.Prelude.{ℕ, ◌==◌, not, List, [], filter, if◌then◌else◌, Option, Some, None}
use Rattle.std.specs.Option.{is_some}
use Rattle.block_records.specs.Numbers.{has_number}
use Rattle.block_records.specs.Reports.{others_of}
use Rattle.block_records.specs.declared.block_record.BlockRecord.{BlockRecord}
use Rattle.block_records.specs.declared.fault.BlockRefusal.{BlockRefusal}
use Rattle.block_records.specs.declared.fault.BlockRefusal.TheVariants.{NotFound, NotOpen, StaleStamp}
use Rattle.block_records.specs.declared.mark.Mark.{Mark}
use Rattle.block_changes.specs.Behind.{marks_of}

-- the block has to be known, the stamp to be its newest, and a recovery to run
abbrev pub refused_recovered_by : Option BlockRecord → ℕ → Option BlockRefusal
refused_recovered_by None stamp = Some NotFound
refused_recovered_by (Some own) stamp = if not (stamp == own.stamp) then Some (StaleStamp own.stamp) else (if is_some own.recovering then None else Some NotOpen)

-- of the nodes that reported a block with another length, but of these
abbrev pub marks_but_of : List ℕ → ℕ → ℕ → Option BlockRecord → List Mark
marks_but_of nodes block length None = []
marks_but_of nodes block length (Some own) = marks_of (filter (λ node. not (has_number node nodes)) (others_of length own.reports)) block own.stamp
