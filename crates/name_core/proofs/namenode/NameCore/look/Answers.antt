use Rattle.std.proofs.Common.{length, sym, ap, ◌∙◌, subst}
use Rattle.name_core.specs.NameCore.{NameCore, Looks}
use Rattle.name_core.proofs.Looking.{looks_is}
use Rattle.name_core.proofs.namenode.NameCore.look.Goals as goal

pub returns : goal.returns
returns c =
    subst (λ (v : NameCore). Looks v c.args.request.now (record { place = c.place.result; request = c.in_ok-request_copy.request_copy; verdict = c.in-Ok.verdict })) c.self.view_is
    (looks_is c.self.inside c.args.request.now c.in_ok-request_copy.request_copy c.in-Ok.verdict c.place.result c.self.invariant c.in_ok-request_copy.ensures.cases
    (c.place.ensures.place ∙ ap (λ (v : NameCore). length v.entries) (sym c.self.view_is)) c.in-Ok.ensures)
