use Rattle.std.proofs.Common.{◌≡◌, take}
use Rattle.file_paths.proofs.path.are_same_names.Given as goal

abbrev pub invariant-loop-i : goal.invariant-loop-i
invariant-loop-i l = take l.i l.names ≡ take l.i l.others
