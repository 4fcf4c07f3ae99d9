use Rattle.std.proofs.Common.{◌≡◌, ◌++◌, ◌∙◌, OnOk, sym, ap, subst, arith}
use Rattle.std.specs.Prelude.{codes}
use Rattle.std.specs.String.{string_bytes}
use Rattle.cluster_text.proofs.Digits.{nothing_behind, read_text}
use Rattle.cluster_text.proofs.node_reply.print_read.Goals as goal

pub returns-then-len-eq0 : goal.returns-then-len-eq0
returns-then-len-eq0 c =
    c.in_ok-push_str.ensures.bytes
    ∙ ap (λ word. string_bytes c.args.line.now ++ (codes "ok read" ++ word)) (sym (nothing_behind c.args.chunks.now (grind (arith, c.len.ensures, c.if-len-eq0.true))))

pub returns : goal.returns
returns c = subst
    (λ text. OnOk c.push_pieces.result (string_bytes c.push_pieces.new.line ≡ text))
    (read_text c.args.chunks.now _ (string_bytes c.args.line.now) _ _ c.pieces.ensures.bytes (grind (arith, c.len.ensures, c.if-len-eq0.false)) c.in_ok-push_str.ensures.bytes c.in_ok-push_str-2.ensures.bytes)
    c.push_pieces.ensures
