use Rattle.std.proofs.Common.{◌≡◌, ◌<◌, ◌+◌, ◌++◌, ◌∷◌, ◌∙◌, [], length, sym, ap, subst, arith}
use Rattle.std.proofs.lemmas.List.{length-append}
use Rattle.call_parts.specs.Chunks.{StandBehind, bytes_of}
use Rattle.call_parts.specs.declared.chunks.Piece.{Piece}
use Rattle.call_parts.proofs.Pieces.{stand_more, bytes_of_more}
use Rattle.call_parts.proofs.chunks.Chunks.push.Goals as goal

pub invariant_of-self-2 : goal.invariant_of-self-2
invariant_of-self-2 c =
    let old = c.self.inside.pieces.items in
    let piece : Piece = record { start = c.self.inside.total; bytes = c.args.bytes } in
    let begins : piece.start ≡ 0 + length (bytes_of old) = omega (arith, c.self.invariant.1) in
    let some : 0 < length piece.bytes = omega (arith, c.in-Some.ensures, c.len.ensures.value, c.if-total-start.false) in
    let total : c.in-Some.total ≡ length (bytes_of (old ++ piece ∷ [])) = omega (arith, c.in-Some.ensures, c.len.ensures.value, c.self.invariant.1, ap length (bytes_of_more old piece), length-append (bytes_of old) piece.bytes) in
    (subst (StandBehind 0) (sym c.in_ok-push.ensures.items) (stand_more 0 old piece c.self.invariant.0 begins some), total ∙ ap (λ pieces. length (bytes_of pieces)) (sym c.in_ok-push.ensures.items))
