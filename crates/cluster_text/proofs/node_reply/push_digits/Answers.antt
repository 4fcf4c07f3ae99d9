use Rattle.std.proofs.Common.{◌++◌, drop, sym, ap, ◌∙◌}
use Rattle.std.specs.String.{string_bytes}
use Rattle.std.proofs.lemmas.List.{take-append-drop}
use Rattle.cluster_text.proofs.Digits.{front_spelled}
use Rattle.cluster_text.proofs.node_reply.push_digits.Goals as goal

pub loop-rest-preserved : goal.loop-rest-preserved
loop-rest-preserved c =
    let rest = c.loop-rest.rest.now in
    front_spelled rest c.split_at.result.0.now c.split_at.result.1.now (string_bytes c.loop-rest.line) (string_bytes c.push_spelled.new.line) _
    (sym (take-append-drop 256 rest) ∙ ap (λ front. front ++ drop 256 rest) (sym c.split_at.ensures.front) ∙ ap (λ back. c.split_at.result.0.now ++ back) (sym c.split_at.ensures.back))
    c.loop-rest.invariant c.in_ok-push_spelled.ensures
