use Rattle.std.proofs.Common.{arith}
use Rattle.write_rules.proofs.write.number_in.Goals as goal

pub returns : goal.returns
returns c = λ path rows is. omega (arith, is.number, c.if-counted-eq18446744073709551615.false)
