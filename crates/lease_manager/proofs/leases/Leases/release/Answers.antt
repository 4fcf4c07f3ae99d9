use Rattle.std.proofs.Common.{◌≡◌, ◌∙◌, ap, sym, subst, arith}
use Rattle.lease_manager.specs.Leases.{Leases, AreInOrder, latest_moment, renewals_without, after_release}
use Rattle.lease_manager.specs.Shown.{renewals_of}
use Rattle.lease_manager.proofs.Order.{released_in_order, released_latest}
use Rattle.lease_manager.proofs.Renewals.{removed, are_renewals, distinct_keys}
use Rattle.lease_manager.proofs.leases.Leases.release.Goals as goal

pub invariant_of-self : goal.invariant_of-self
invariant_of-self c =
    let es = c.self.inside.renewals.entries in
    let left : renewals_of c.pop.new.self.entries ≡ renewals_without c.args.client.now (renewals_of es) =
    ap (λ cache. renewals_of cache.entries) c.pop.ensures.entries ∙ removed c.args.client.now es (distinct_keys es c.self.invariant.0) in (
      are_renewals c.pop.new.self.entries c.len-behind.ensures.valid.0
          (subst AreInOrder (sym left) (released_in_order c.args.client.now (renewals_of es) c.self.invariant.0.1)),
      ap (λ cache. cache.cap) c.pop.ensures.entries ∙ c.self.invariant.1,
    )

pub returns-clause-released : goal.returns-clause-released
returns-clause-released c =
    let es = c.self.inside.renewals.entries in
    ap (λ rs. record { limits = record { soft = c.self.inside.soft; hard = c.self.inside.hard }; renewals = rs })
    (ap (λ cache. renewals_of cache.entries) c.pop.ensures.entries ∙ removed c.args.client.now es (distinct_keys es c.self.invariant.0))
    ∙ ap (λ (leases : Leases). after_release leases c.args.client.now) c.self.view_is

pub returns-clause-latest : goal.returns-clause-latest
returns-clause-latest c =
    let es = c.self.inside.renewals.entries in
    let left : renewals_of c.pop.new.self.entries ≡ renewals_without c.args.client.now (renewals_of es) =
    ap (λ cache. renewals_of cache.entries) c.pop.ensures.entries ∙ removed c.args.client.now es (distinct_keys es c.self.invariant.0) in
    let before : latest_moment (renewals_of es) ≡ latest_moment c.args.self.now.renewals = ap (λ (leases : Leases). latest_moment leases.renewals) c.self.view_is in
    omega (arith, ap latest_moment left, released_latest c.args.client.now (renewals_of es), before)
