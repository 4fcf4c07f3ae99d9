use Rattle.std.proofs.Common.{◌≡◌, ◌∙◌, sym, subst}
use Rattle.std.proofs.lemmas.List.Elements.{All-get_or}
use Rattle.required_rights.specs.RequiredRights.{Demand}
use Rattle.perm_walk.proofs.walk.first_denial_on.Goals as goal

pub denial_by-requires-clause-on : goal.denial_by-requires-clause-on
denial_by-requires-clause-on c =
    subst (λ (demand : Demand). demand.path ≡ c.loop-demand.descent.path.now) (sym c.demand-item.is)
    (All-get_or (λ (demand : Demand). demand.path ≡ c.args.descent.now.path.now) c.args.demands.now c.loop-demand.demand-index c.demand-item.result c.loop-demand-test.true c.requires.on ∙ sym c.loop-demand.invariant.path)
