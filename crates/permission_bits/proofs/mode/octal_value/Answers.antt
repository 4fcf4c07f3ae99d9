use Rattle.std.proofs.Common.{arith}
use Rattle.hdfs_values.proofs.Numbers.{pow_small}
use Rattle.permission_bits.proofs.mode.octal_value.Goals as goal

pub overflow_mul-value : goal.overflow_mul-value
overflow_mul-value c = omega (arith, pow_small c.loop-byte.byte-index (omega arith), c.loop-byte.invariant.small)

pub overflow_add-value : goal.overflow_add-value
overflow_add-value c = omega (arith, pow_small c.loop-byte.byte-index (omega arith), c.loop-byte.invariant.small)
