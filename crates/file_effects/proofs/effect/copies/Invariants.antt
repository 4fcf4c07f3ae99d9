use Rattle.std.proofs.Common.{◌≡◌, map, take}
use Rattle.file_effects.proofs.effect.copies.Given as goal

abbrev pub invariant-loop-name : goal.invariant-loop-name
invariant-loop-name l = l.copies.items ≡ map (λ name. name.now) (take l.name-index l.names)
