use Rattle.std.proofs.Common.{◌∙◌, ℕ, List, ap}
use Rattle.std.specs.BTreeMap.{insert_entry}
use Rattle.std.specs.Ordering.{nat_cmp}
use Rattle.datanode.specs.NodeStep.{DataNode}
use Rattle.cluster_trace.specs.Trace.{with_new_node}
use Rattle.cluster_parts.proofs.nodes.Nodes.add.Goals as goal

pub returns : goal.returns
returns c =
    c.in_ok-insert.ensures.entries
    ∙ ap (λ (node : DataNode). insert_entry nat_cmp c.self.inside.by_id.entries c.args.id node) c.in_ok-node.ensures
    ∙ ap (λ (nodes : List (ℕ × DataNode)). with_new_node c.args.limit nodes c.args.id) c.self.view_is
