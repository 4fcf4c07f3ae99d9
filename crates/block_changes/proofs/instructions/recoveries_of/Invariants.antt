use Rattle.std.proofs.Common.{◌≡◌, ◌++◌, drop}
use Rattle.std.specs.List.{filter_map}
use Rattle.known_blocks.specs.Known.{block_of}
use Rattle.block_changes.specs.Orders.{recovery_by}
use Rattle.block_changes.proofs.instructions.recoveries_of.Given as goal

abbrev pub invariant-loop-block : goal.invariant-loop-block
invariant-loop-block l =
    l.told.items ++ filter_map (λ block. recovery_by block (block_of l.known block)) (drop l.block-index l.blocks) ≡ filter_map (λ block. recovery_by block (block_of l.known block)) l.blocks
