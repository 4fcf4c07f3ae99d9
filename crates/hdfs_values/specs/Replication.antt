-- How many replicas each block of a file is to have.
-- (HDFS Architecture, "Data Replication"; the greatest number is this project's choice.)
use Rattle.std.specs.Prelude.{ℕ, Bool, ◌&&◌, nat_le}

abbrev pub is_replication : ℕ → Bool
is_replication replicas = nat_le 1 replicas && nat_le replicas 16
