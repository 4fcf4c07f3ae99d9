use Rattle.std.proofs.Common.{length, ◌-◌, ◌≤◌}
use Rattle.block_index.proofs.node_blocks.place_from.Given as goal

abbrev pub invariant-loop-at : goal.invariant-loop-at
invariant-loop-at l = l.at ≤ length l.nodes

abbrev pub decreases-loop-at : goal.decreases-loop-at
decreases-loop-at l = length l.nodes - l.at
