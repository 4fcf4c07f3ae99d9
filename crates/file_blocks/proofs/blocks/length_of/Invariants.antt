use Rattle.std.proofs.Common.{◌≡◌, ◌+◌, ◌<◌, ◌^◌}
use Rattle.std.specs.Prelude.{drop}
use Rattle.file_blocks.specs.Blocks as spec
use Rattle.file_blocks.proofs.blocks.length_of.Given as goal

abbrev pub invariant-loop-block : goal.invariant-loop-block
invariant-loop-block l = (l.length + spec.length_of (drop l.block-index l.blocks) ≡ spec.length_of l.blocks) × (l.length < 2 ^ 64)
