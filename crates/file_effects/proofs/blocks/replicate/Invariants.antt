use Rattle.std.proofs.Common.{◌≡◌, map, take}
use Rattle.history.specs.Blocks.{all_replicated}
use Rattle.file_effects.proofs.blocks.replicate.Given as goal

abbrev pub invariant-loop-block : goal.invariant-loop-block
invariant-loop-block l = l.blocks ≡ all_replicated l.replication (map (λ block. block.id) (take l.block-index l.own)) l.initial.blocks
