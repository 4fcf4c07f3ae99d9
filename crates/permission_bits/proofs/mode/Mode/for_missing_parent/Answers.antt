use Rattle.std.proofs.Common.{◌<◌, ◌^◌, ◌%◌, arith}
use Rattle.std.proofs.lemmas.Nat.{or_lt}
use Rattle.permission_bits.proofs.mode.Mode.for_missing_parent.Goals as goal

pub invariant_of-result : goal.invariant_of-result
invariant_of-result c =
    let low : c.self.inside.bits % 512 < 2 ^ 10 = omega arith in
    let sum = or_lt 10 (c.self.inside.bits % 512) 192 low (omega arith) in
    omega (arith, sum)
