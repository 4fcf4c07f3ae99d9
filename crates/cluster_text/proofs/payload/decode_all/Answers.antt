use Rattle.std.proofs.Common.{◌*◌, sym, ap, ◌∙◌, arith}
use Rattle.std.proofs.lemmas.List.{length-set}
use Rattle.cluster_text.proofs.Spelled.{decoded_more, all_decoded}
use Rattle.cluster_text.proofs.payload.decode_all.Goals as goal

pub loop-i-preserved : goal.loop-i-preserved
loop-i-preserved c = (
  decoded_more c.args.digits.now c.loop-i.bytes c.loop-i.i c.value_of-high.result c.value_of-low.result _ c.loop-i.good (omega arith) (omega arith) c.value_of-high.ensures c.value_of-low.ensures
      (λ h l. omega (arith, h, l)) c.loop-i.invariant.0,
  c.loop-i.invariant.1 ∙ ap (λ n. 2 * n) (sym (length-set c.loop-i.bytes c.loop-i.i _)),
)

pub returns : goal.returns
returns c = all_decoded c.args.digits.now c.loop-i.bytes c.loop-i.i c.loop-i.good (omega arith) (omega arith) c.loop-i.invariant.0
