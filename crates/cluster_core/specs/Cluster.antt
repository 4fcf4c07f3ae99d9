-- How a cluster is seen.
use Rattle.std.specs.Prelude.{reverse}
use Rattle.cluster_trace.specs.Trace.{Cluster}
use Rattle.cluster_parts.specs.Sent.{messages_of, AreLaid}
use Rattle.cluster_core.specs.declared.cluster.Cluster.TheInside.{Inside}

abbrev pub cluster_of : Inside → Cluster
cluster_of own = record {
  opening = own.core.opening;
  entries = own.core.entries;
  nodes = own.nodes;
  plans = own.leaders;
  messages = messages_of (reverse own.core.entries) own.sent.batches.items;
}

abbrev pub IsLaid : Inside → Type 0
IsLaid own = AreLaid (reverse own.core.entries) 0 own.sent.batches.items own.sent.count
