use Rattle.std.proofs.Common.{◌≡◌, take}
use Rattle.file_blocks.proofs.blocks.are_same_blocks.Given as goal

abbrev pub invariant-loop-i : goal.invariant-loop-i
invariant-loop-i l = take l.i l.blocks ≡ take l.i l.others
