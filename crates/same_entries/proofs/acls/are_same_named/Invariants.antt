use Rattle.std.proofs.Common.{◌≡◌, take}
use Rattle.same_entries.proofs.acls.are_same_named.Given as goal

abbrev pub invariant-loop-i : goal.invariant-loop-i
invariant-loop-i l = take l.i l.entries ≡ take l.i l.others
