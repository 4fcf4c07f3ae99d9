-- Which blocks have enough reports, of live nodes or not (HDFS Architecture, "Data Disk Failure, Heartbeats and Re-Replication").
use Rattle.std.specs.Prelude.{◌||◌, Bool, true, nat_le, length, Option, Some, None}
use Rattle.std.specs.Option.{is_none}
use Rattle.block_records.specs.declared.block_record.BlockRecord.{BlockRecord}

-- as many nodes reported the block as there are to be replicas, or it isn't committed, or isn't known
abbrev pub is_ample : Option BlockRecord → Bool
is_ample None = true
is_ample (Some own) = is_none own.committed || nat_le own.replication (length own.reports)
