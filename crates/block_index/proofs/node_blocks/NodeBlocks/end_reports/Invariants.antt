use Rattle.std.proofs.Common.{◌≡◌, ℕ, ◌&&◌, not, false, cond, length}
use Rattle.std.specs.Option.{is_some}
use Rattle.block_records.specs.Numbers.{is_number, has_number, entry_at}
use Rattle.block_index.specs.Relation.{relates}
use Rattle.block_index.proofs.node_blocks.NodeBlocks.end_reports.Given as goal

abbrev pub invariant-loop-node : goal.invariant-loop-node
invariant-loop-node l = (n b : ℕ) →
    cond (is_number l.block b && (is_some (entry_at n l.reports) && not (has_number n l.expected))) false (relates l.self n b)
    ≡ cond (is_number l.block b && (is_some (entry_at n l.initial.reports) && not (has_number n l.expected))) false (relates l.initial.self n b)

abbrev pub decreases-loop-node : goal.decreases-loop-node
decreases-loop-node l = length l.reports
