use Rattle.std.proofs.Common.{◌≡◌, take}
use Rattle.known_blocks.specs.Known.{without_each_block}
use Rattle.known_blocks.proofs.known_blocks.KnownBlocks.remove_all.Given as goal

abbrev pub invariant-loop-block : goal.invariant-loop-block
invariant-loop-block l = l.self ≡ without_each_block l.initial.self (take l.block-index l.blocks)
