-- The texts of why an event does nothing.
use Rattle.std.specs.Prelude.{ℕ, List, codes}
use Rattle.cluster_trace.specs.declared.outcome.ClusterRefusal.{ClusterRefusal}
use Rattle.cluster_trace.specs.declared.outcome.ClusterRefusal.TheVariants.{NoMessage, NoNode, NotFromOutside}

abbrev pub cluster_refusal_text : ClusterRefusal → List ℕ
cluster_refusal_text NoMessage = codes "D1 NoMessage"
cluster_refusal_text NoNode = codes "D2 NoNode"
cluster_refusal_text NotFromOutside = codes "D3 NotFromOutside"
