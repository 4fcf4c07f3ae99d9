use Rattle.std.proofs.Common.{◌++◌, sym, ap, ◌∙◌, append-nil, arith}
use Rattle.std.specs.String.{string_bytes}
use Rattle.hex.specs.Hex.{encode_lower}
use Rattle.cluster_text.proofs.Digits.{no_digits, piece_more}
use Rattle.cluster_text.proofs.node_reply.push_pieces.Goals as goal

pub loop-piece-init : goal.loop-piece-init
loop-piece-init c = sym (ap (λ digits. string_bytes c.args.line.now ++ digits) no_digits ∙ append-nil (string_bytes c.args.line.now))

pub loop-piece-preserved : goal.loop-piece-preserved
loop-piece-preserved c =
    piece_more c.args.pieces.now c.loop-piece.piece-index c.piece-item.result (string_bytes c.args.line.now) (string_bytes c.loop-piece.line) (string_bytes c.push_digits.new.line) (omega arith) c.piece-item.is c.loop-piece.invariant
    (c.in_ok-push_digits.ensures ∙ ap (λ bytes. string_bytes c.loop-piece.line ++ encode_lower bytes) c.as_slice.ensures)
