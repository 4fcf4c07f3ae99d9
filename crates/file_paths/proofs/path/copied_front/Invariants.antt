use Rattle.std.proofs.Common.{◌≡◌, take}
use Rattle.file_paths.proofs.path.copied_front.Given as goal

abbrev pub invariant-loop-i : goal.invariant-loop-i
invariant-loop-i l = l.front.items ≡ take l.i l.names
