use Rattle.std.proofs.Common.{◌≡◌, ◌-◌, ◌∙◌, drop, sym, ap, subst, slice_get}
use Rattle.call_parts.specs.Chunks.{bytes_of}
use Rattle.call_parts.proofs.Pieces.{behind_is}
use Rattle.call_parts.proofs.chunks.behind.Goals as goal

pub returns-in-Some : goal.returns-in-Some
returns-in-Some c = subst (λ rest. drop c.args.offset (bytes_of c.args.pieces.now) ≡ drop (c.args.offset - c.in-Some.piece.now.start) (bytes_of rest)) (sym c.split_at.ensures.back)
    (behind_is c.saturating_sub.result c.args.offset c.args.pieces.now c.in-Some.piece.now c.requires
    (ap (λ rest. slice_get rest 0) (sym c.split_at.ensures.back) ∙ sym c.in-Some.ensures.value) c.if-piece-offset.true)
