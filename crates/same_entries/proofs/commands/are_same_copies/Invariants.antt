use Rattle.std.proofs.Common.{◌≡◌, take}
use Rattle.same_entries.proofs.commands.are_same_copies.Given as goal

abbrev pub invariant-loop-i : goal.invariant-loop-i
invariant-loop-i l = take l.i l.copies ≡ take l.i l.others
