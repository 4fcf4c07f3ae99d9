use Rattle.std.proofs.Common.{◌≤◌, ◌∙◌, ap, sym, subst}
use Rattle.lease_manager.specs.Leases.{Leases, latest_moment}
use Rattle.lease_manager.specs.Shown.{renewals_of}
use Rattle.lease_manager.proofs.Order.{renewals_kept, renewed_latest}
use Rattle.lease_manager.proofs.leases.Leases.renew.Goals as goal

pub invariant_of-self-2 : goal.invariant_of-self-2
invariant_of-self-2 c = (
  renewals_kept c.args.client.now c.args.now c.self.inside.renewals.entries c.renew_present.new.renewals.entries c.self.invariant.0
      (subst (λ (leases : Leases). latest_moment leases.renewals ≤ c.args.now) (sym c.self.view_is) c.requires)
      c.if-not-renew_present.ensures.renewed.0 c.if-not-renew_present.ensures.renewed.1,
  c.if-not-renew_present.ensures.cap ∙ c.self.invariant.1,
)

pub returns-clause-latest : goal.returns-clause-latest
returns-clause-latest c =
    ap latest_moment c.if-not-renew_present.ensures.renewed.0
    ∙ renewed_latest c.args.client.now c.args.now (renewals_of c.self.inside.renewals.entries)
    (subst (λ (leases : Leases). latest_moment leases.renewals ≤ c.args.now) (sym c.self.view_is) c.requires)
