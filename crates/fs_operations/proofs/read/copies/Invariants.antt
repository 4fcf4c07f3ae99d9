use Rattle.std.proofs.Common.{◌≡◌, map, take}
use Rattle.fs_operations.proofs.read.copies.Given as goal

abbrev pub invariant-loop-name : goal.invariant-loop-name
invariant-loop-name l = l.copies.items ≡ map (λ name. name.now) (take l.name-index l.names)
