use Rattle.std.proofs.Common.{◌≡◌, take}
use Rattle.block_tokens.specs.KeyList.{usable_keys}
use Rattle.block_tokens.proofs.ring.KeyRing.update.Given as goal

abbrev pub invariant-loop-serial : goal.invariant-loop-serial
invariant-loop-serial l = l.keys ≡ usable_keys l.now (take l.serial-index l.serial-items)
