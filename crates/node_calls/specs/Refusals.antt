-- The texts of what a DataNode refuses: the code, the name, and what is told with it.
use Rattle.std.specs.Prelude.{ℕ, List, ◌++◌, codes}
use Rattle.std.specs.Fmt.{decimal}
use Rattle.block_tokens.specs.Refusals.{token_refusal_text}
use Rattle.node_calls.specs.declared.refusal.NodeRefusal.{NodeRefusal}
use Rattle.node_calls.specs.declared.refusal.NodeRefusal.TheVariants as refused
use Rattle.node_calls.specs.declared.refusal.ReplicaRefusal.{ReplicaRefusal}
use Rattle.node_calls.specs.declared.refusal.ReplicaRefusal.TheVariants.{NoReplica, StampDiffers, OutOfRange, NotWritable, OffsetGap, ReplicaExists}

abbrev pub replica_refusal_text : ReplicaRefusal → List ℕ
replica_refusal_text NoReplica = codes "R1 NoReplica"
replica_refusal_text (StampDiffers stamp) = codes "R2 StampDiffers " ++ decimal stamp
replica_refusal_text OutOfRange = codes "R3 OutOfRange"
replica_refusal_text NotWritable = codes "R4 NotWritable"
replica_refusal_text (OffsetGap length) = codes "R5 OffsetGap " ++ decimal length
replica_refusal_text ReplicaExists = codes "R6 ReplicaExists"

abbrev pub node_refusal_text : NodeRefusal → List ℕ
node_refusal_text (refused.Token refusal) = token_refusal_text refusal
node_refusal_text (refused.Replica refusal) = replica_refusal_text refusal
