-- The states of a replica: being written, or finalized. (HDFS-265, replica states.)
use Rattle.std.specs.Prelude.{Bool, true, false}
use Rattle.node_calls.specs.declared.call.ReplicaState.{ReplicaState}
use Rattle.node_calls.specs.declared.call.ReplicaState.TheVariants.{Writing, Finalized}

abbrev pub is_writing : ReplicaState → Bool
is_writing Writing = true
is_writing Finalized = false
