use Rattle.std.proofs.Common.{eqb, w8, ap, ◌∙◌}
use Rattle.std.specs.Int.{bit_at}
use Rattle.std.proofs.lemmas.Simd.{bitmask_splat}
use Rattle.script_words.proofs.Marks.{mark_is}
use Rattle.script_words.proofs.next_blank.marks_of.Goals as goal

pub returns : goal.returns
returns o c k = ap (λ marks. bit_at marks k) (bitmask_splat w8 eqb c.args.bytes o.row.N c.args.byte c.fits-bytes.0 c.requires.few) ∙ mark_is c.args.bytes c.args.byte k c.requires.above
