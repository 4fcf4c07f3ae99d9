use Rattle.std.proofs.Common.{◌≡◌, ◌++◌, drop}
use Rattle.block_changes.specs.Leaders.{blocks_with_leaders}
use Rattle.block_changes.proofs.recoveries.led.Given as goal

abbrev pub invariant-loop-block : goal.invariant-loop-block
invariant-loop-block l = l.led.items ++ blocks_with_leaders l.known l.nodes (drop l.block-index l.blocks) l.now ≡ blocks_with_leaders l.known l.nodes l.blocks l.now
