use Rattle.std.proofs.Common.{◌≡◌, take}
use Rattle.same_entries.proofs.commands.are_same_recoveries.Given as goal

abbrev pub invariant-loop-i : goal.invariant-loop-i
invariant-loop-i l = take l.i l.recoveries ≡ take l.i l.others
