-- What a DataNode is told with the answer to its heartbeat: keys, recoveries that it is to lead, replicas that it is to remove, and
-- replicas that it is to copy.
-- (HDFS Architecture, "Data Disk Failure, Heartbeats and Re-Replication"; the DataNode protocol.)
use Rattle.std.specs.Prelude.{List}
use Rattle.block_answers.specs.KeyList.{KeyList}
use Rattle.block_answers.specs.declared.commands.Recover.{Recover}
use Rattle.block_answers.specs.declared.commands.Removal.{Removal}
use Rattle.block_answers.specs.declared.commands.CopyOrder.{CopyOrder}

pub record Commands : Type 0 where
  pub keys : KeyList
  pub recoveries : List Recover
  pub removals : List Removal
  pub copies : List CopyOrder
