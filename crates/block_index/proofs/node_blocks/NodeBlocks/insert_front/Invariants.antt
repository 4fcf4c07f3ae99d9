use Rattle.std.proofs.Common.{◌≡◌, ℕ, ◌&&◌, true, cond, take}
use Rattle.block_records.specs.Numbers.{is_number, has_number}
use Rattle.block_index.specs.Relation.{relates}
use Rattle.block_index.proofs.node_blocks.NodeBlocks.insert_front.Given as goal

abbrev pub invariant-loop-node : goal.invariant-loop-node
invariant-loop-node l = (n b : ℕ) → relates l.self n b ≡ cond (is_number l.block b && has_number n (take l.node-index l.nodes)) true (relates l.initial.self n b)
