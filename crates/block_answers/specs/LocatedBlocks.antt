-- Blocks as their writers and readers are told of them.
-- (HDFS Architecture, "Data Replication" and "Replication Pipelining"; HADOOP-4359 for the tokens.)
use Rattle.std.specs.Prelude.{ℕ, List}
use Rattle.block_answers.specs.declared.located.LocatedBlock.{LocatedBlock}

-- a new block, the nodes that are to hold it, and the token with which it is written
pub record AddedBlock : Type 0 where
  pub block : ℕ
  pub stamp : ℕ
  pub targets : List ℕ
  pub token : List ℕ

-- a file to be read: its bytes, and its blocks whose length is committed
pub record OpenedFile : Type 0 where
  pub length : ℕ
  pub blocks : List LocatedBlock
