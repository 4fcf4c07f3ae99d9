use Rattle.std.proofs.Common.{◌≡◌, fold}
use Rattle.std.specs.Map.{remove_entry}
use Rattle.block_records.specs.Numbers.{is_number}
use Rattle.block_index.proofs.node_blocks.BlockSet.remove_from.Given as goal

abbrev pub invariant-loop-block : goal.invariant-loop-block
invariant-loop-block l =
    fold (λ left block. remove_entry (is_number block) left) l.table.entries l.block-iterator ≡ fold (λ left block. remove_entry (is_number block) left) l.initial.table.entries l.self
