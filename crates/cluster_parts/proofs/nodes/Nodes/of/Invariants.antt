use Rattle.std.proofs.Common.{◌≡◌, [], fold, drop}
use Rattle.cluster_trace.specs.Trace.{with_new_node}
use Rattle.cluster_parts.proofs.nodes.Nodes.of.Given as goal

abbrev pub invariant-loop-id : goal.invariant-loop-id
invariant-loop-id l = fold (with_new_node l.limit) l.nodes (drop l.id-index l.ids) ≡ fold (with_new_node l.limit) [] l.ids
