use Rattle.std.proofs.Common.{List, ℕ, sym, subst}
use Rattle.block_records.proofs.Standing.{IsOrdered, none_ordered}
use Rattle.block_index.proofs.node_blocks.NodeBlocks.new.Goals as goal

pub invariant_of-result : goal.invariant_of-result
invariant_of-result c = subst (λ (table : List (ℕ × List ℕ)). IsOrdered table) (sym c.new.ensures.items) (none_ordered (List ℕ))
