-- What a call leaves of the DataNodes of a cluster, and what it is answered.
use Rattle.std.specs.Prelude.{ℕ, List, Option, Some, None, option_map}
use Rattle.std.specs.Map.{set_value}
use Rattle.block_records.specs.Numbers.{is_number, entry_at}
use Rattle.node_calls.specs.declared.call.NodeCall.{NodeCall}
use Rattle.datanode.specs.NodeStep.{DataNode, node_after, node_answer}
use Rattle.datanode.specs.declared.answered.Answered.{Answered}

abbrev pub left_by_call : ℕ → ℕ → NodeCall → List (ℕ × DataNode) → Option DataNode → List (ℕ × DataNode)
left_by_call id now asked nodes None = nodes
left_by_call id now asked nodes (Some node) = set_value (is_number id) nodes (node_after node now asked)

abbrev pub nodes_after : ℕ → ℕ → NodeCall → List (ℕ × DataNode) → List (ℕ × DataNode)
nodes_after id now asked nodes = left_by_call id now asked nodes (entry_at id nodes)

-- nothing where there is no such node
abbrev pub answer_at : ℕ → ℕ → NodeCall → List (ℕ × DataNode) → Option Answered
answer_at id now asked nodes = option_map (λ (node : DataNode). node_answer node now asked) (entry_at id nodes)
