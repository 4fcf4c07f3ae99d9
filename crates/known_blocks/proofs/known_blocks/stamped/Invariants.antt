use Rattle.std.proofs.Common.{◌≡◌, ◌++◌, drop}
use Rattle.known_blocks.specs.Known.{with_stamps}
use Rattle.known_blocks.proofs.known_blocks.stamped.Given as goal

abbrev pub invariant-loop-block : goal.invariant-loop-block
invariant-loop-block l = l.begun.items ++ with_stamps l.next (drop l.block-index l.led) ≡ with_stamps l.first l.led
