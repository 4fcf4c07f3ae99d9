use Rattle.std.proofs.Common.{◌++◌, ap, ◌∙◌}
use Rattle.json.specs.Print.{print}
use Rattle.audit_text.specs.AuditText.{told_of}
use Rattle.audit_text.specs.Tokens.{object_tokens}
use Rattle.audit_text.proofs.Printed.{printed}
use Rattle.audit_text.proofs.lines.object_of.Goals as goal

pub returns-clause-text : goal.returns-clause-text
returns-clause-text c =
    let told = told_of c.args.entry.now in
    let tells = c.in_ok-put_entry.ensures in
    c.into_inner.ensures.items
    ∙ ap (λ front. front ++ print c.put_entry.new.writer.tokens) (tells.before ∙ c.new-writer.ensures.before ∙ c.clear.ensures.items)
    ∙ ap print (tells.tokens ∙ ap (λ front. front ++ object_tokens told) c.new-writer.ensures.tokens)
    ∙ printed told
