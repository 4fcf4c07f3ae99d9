use Rattle.std.proofs.Common.{◌≡◌, take}
use Rattle.block_changes.specs.Removals.{marks_of_all_holders}
use Rattle.block_changes.proofs.removals.marks_of_all_holders.Given as goal

abbrev pub invariant-loop-block : goal.invariant-loop-block
invariant-loop-block l = l.marks.items ≡ marks_of_all_holders l.known (take l.block-index l.blocks)
