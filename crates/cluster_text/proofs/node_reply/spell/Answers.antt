use Rattle.std.proofs.Common.{ℕ, arith, slice_index, ap, ◌∙◌, ◌+◌, ◌*◌}
use Rattle.std.proofs.lemmas.List.{length-set}
use Rattle.std.proofs.lemmas.Nat.{and_mask}
use Rattle.hex.proofs.Pairs.{encode_step, encode_done}
use Rattle.hex.specs.Hex.{lower_digits}
use Rattle.cluster_text.proofs.node_reply.spell.Goals as goal

pub loop-i-preserved : goal.loop-i-preserved
loop-i-preserved c =
    let byte : ℕ = slice_index c.args.bytes.now c.loop-i.i in (
      encode_step lower_digits c.args.bytes.now c.loop-i.digits c.loop-i.i _ _ (omega arith) (omega arith) c.digit_of.ensures (c.digit_of-in-loop-i.ensures ∙ ap (λ (k : ℕ). slice_index lower_digits k) (and_mask byte 4)) c.loop-i.invariant.0,
      length-set _ (2 * c.loop-i.i + 1) c.digit_of-in-loop-i.result ∙ length-set c.loop-i.digits (2 * c.loop-i.i) c.digit_of.result ∙ c.loop-i.invariant.1,
    )

pub returns : goal.returns
returns c = encode_done lower_digits c.args.bytes.now c.loop-i.digits c.loop-i.i (omega arith) c.loop-i.invariant.1 c.loop-i.invariant.0
