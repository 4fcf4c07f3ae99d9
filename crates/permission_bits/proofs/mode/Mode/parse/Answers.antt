use Rattle.std.proofs.Common.{rules}
use Rattle.permission_bits.proofs.mode.Mode.parse.Goals as goal

pub octal_value-requires-clause-few : goal.octal_value-requires-clause-few
octal_value-requires-clause-few c = search rules

pub returns : goal.returns
returns c = search rules
