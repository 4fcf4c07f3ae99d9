-- Requests to the NameNode.
use Rattle.std.specs.Prelude.{Bool, true, false}
use Rattle.hdfs_types.specs.declared.op.Op.{Op}
use Rattle.hdfs_types.specs.declared.op.Op.TheVariants.{Stat, List, Summary, GetAcl, Delete, Create, Append, AddBlock, Complete, Open, SetReplication, RollKey, Renew, Tick, Heartbeat, Reported, CommitRecovery}

-- an operation that changes nothing and grants nothing
abbrev pub is_look : Op → Bool
is_look (Stat path) = true
is_look (List path) = true
is_look (Summary path) = true
is_look (GetAcl path) = true
is_look _ = false

-- an operation for DataNodes alone
abbrev pub is_for_nodes : Op → Bool
is_for_nodes Heartbeat = true
is_for_nodes (Reported replica) = true
is_for_nodes (CommitRecovery recovered) = true
is_for_nodes _ = false

-- an operation that neither asks who has which file open to write nor changes it, that leaves the keys and what is known of blocks and
-- DataNodes, and that grants nothing
abbrev pub keeps_leases : Op → Bool
keeps_leases (Create path mode replication over) = false
keeps_leases (Append path) = false
keeps_leases (AddBlock path last) = false
keeps_leases (Complete path last) = false
keeps_leases (Delete path recursive) = false
keeps_leases (Open path) = false
keeps_leases (SetReplication path replication) = false
keeps_leases (RollKey key) = false
keeps_leases Renew = false
keeps_leases Tick = false
keeps_leases Heartbeat = false
keeps_leases (Reported replica) = false
keeps_leases (CommitRecovery recovered) = false
keeps_leases _ = true
