use Rattle.std.proofs.Common.{◌≡◌, subst, IfOk}
use Rattle.std.specs.String.{string_bytes}
use Rattle.explanations.proofs.Fronts.{explains, finds}
use Rattle.explanations.proofs.explain.explain_behind.Goals as goal

pub returns-in-Some-clause-text : goal.returns-in-Some-clause-text
returns-in-Some-clause-text c =
    subst (λ text. IfOk c.explain_alone-explained.result (λ explanation. string_bytes explanation.text ≡ text))
    (explains c.args.lines.now c.split_at.result.0.now c.split_at.result.1.now c.args.before c.min.result c.min.ensures c.split_at.ensures.front c.split_at.ensures.back c.in_ok-request.field-0 c.in-Some.request c.in_ok-request.ensures c.in-Some.is)
    c.explain_alone-explained.ensures.text

pub returns-in-Some-clause-found : goal.returns-in-Some-clause-found
returns-in-Some-clause-found c =
    subst (λ found. IfOk c.explain_alone-explained.result (λ explanation. explanation.found ≡ found))
    (finds c.args.lines.now c.split_at.result.0.now c.split_at.result.1.now c.args.before c.min.result c.min.ensures c.split_at.ensures.front c.split_at.ensures.back c.in_ok-request.field-0 c.in-Some.request c.in_ok-request.ensures c.in-Some.is)
    c.explain_alone-explained.ensures.found
