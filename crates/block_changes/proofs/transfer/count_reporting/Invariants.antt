use Rattle.std.proofs.Common.{◌≡◌, ◌≤◌, filter, length, take}
use Rattle.block_changes.specs.Copies.{reports}
use Rattle.block_changes.proofs.transfer.count_reporting.Given as goal

abbrev pub invariant-loop-node : goal.invariant-loop-node
invariant-loop-node l = (l.count ≡ length (filter (reports l.own) (take l.node-index l.nodes))) × (l.count ≤ l.node-index)
