-- The replicas that DataNodes are to remove where a block is deleted.
-- (HDFS Architecture, "File Deletes and Undeletes": the blocks of a deleted file are freed on the DataNodes.)
use Rattle.std.specs.Prelude.{ℕ, List, [], ◌++◌, Option, Some, None}
use Rattle.std.specs.List.{flat_map}
use Rattle.std.specs.Map.{keys_of}
use Rattle.block_records.specs.declared.block_record.BlockRecord.{BlockRecord}
use Rattle.block_records.specs.declared.mark.Mark.{Mark}
use Rattle.known_blocks.specs.Known.{KnownBlocks, block_of}
use Rattle.block_changes.specs.Behind.{marks_of}

-- the nodes that are to hold a block, and those that reported it
abbrev pub holders_by : Option BlockRecord → List ℕ
holders_by None = []
holders_by (Some own) = own.expected ++ keys_of own.reports

abbrev pub marks_of_holders : ℕ → Option BlockRecord → List Mark
marks_of_holders block None = []
marks_of_holders block (Some own) = marks_of (own.expected ++ keys_of own.reports) block own.stamp

abbrev pub marks_of_all_holders : KnownBlocks → List ℕ → List Mark
marks_of_all_holders known blocks = flat_map (λ block. marks_of_holders block (block_of known block)) blocks
