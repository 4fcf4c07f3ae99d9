use Rattle.std.proofs.Common.{◌≡◌, take}
use Rattle.same_entries.proofs.located.are_same_located.Given as goal

abbrev pub invariant-loop-i : goal.invariant-loop-i
invariant-loop-i l = take l.i l.blocks ≡ take l.i l.others
