use Rattle.std.proofs.Common.{◌+◌, ◌-◌, ◌++◌, ◌∙◌, take, drop, length, ap, arith}
use Rattle.call_parts.specs.Chunks.{bytes_of}
use Rattle.call_parts.proofs.Pieces.{part_more}
use Rattle.call_parts.proofs.chunks.push_part.Goals as goal

pub loop-piece-preserved : goal.loop-piece-preserved
loop-piece-preserved c =
    let after = bytes_of (drop (c.loop-piece.piece-index + 1) c.args.pieces.now) in
    ap (λ chunks. chunks ++ take c.saturating_sub-count.result (drop c.saturating_sub-skipped.result after)) c.in_ok-push.ensures.ok
    ∙ ap (λ n. (c.loop-piece.chunks ++ c.in_ok-part.part) ++ take n (drop c.saturating_sub-skipped.result after)) (c.saturating_sub-count.ensures ∙ ap (λ n. c.loop-piece.count - n) c.len-in-loop-piece.ensures.value)
    ∙ ap (λ n. (c.loop-piece.chunks ++ c.in_ok-part.part) ++ take (c.loop-piece.count - length c.in_ok-part.part) (drop n after)) (c.saturating_sub-skipped.ensures ∙ ap (λ n. c.loop-piece.skipped - n) c.len.ensures.value)
    ∙ part_more c.args.pieces.now c.loop-piece.piece-index c.piece-item.result (omega arith) c.piece-item.is c.loop-piece.skipped c.loop-piece.count c.loop-piece.chunks
    (c.args.chunks.now ++ take c.args.count (drop c.args.skipped (bytes_of c.args.pieces.now))) c.in_ok-part.part c.in_ok-part.ensures c.loop-piece.invariant
