use Rattle.std.proofs.Common.{◌%◌, ap, shr-shr}
use Rattle.script_words.proofs.next_blank.from_bit.Goals as goal

pub returns : goal.returns
returns c k = ap (λ x. x % 2) (shr-shr c.args.marks c.args.bit k)
