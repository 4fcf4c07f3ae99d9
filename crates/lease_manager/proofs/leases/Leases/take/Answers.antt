use Rattle.std.proofs.Common.{◌≡◌, ◌≤◌, ◌-◌, ◌∙◌, length, ap, sym, subst, arith}
use Rattle.hdfs_values.specs.Text.{same}
use Rattle.lru.specs.LruCache.{put_entries}
use Rattle.lease_manager.specs.Leases.{Leases, latest_moment, renewals_with, after_renewal}
use Rattle.lease_manager.specs.Shown.{renewals_of}
use Rattle.lease_manager.proofs.Order.{renewals_kept, renewed_latest}
use Rattle.lease_manager.proofs.Renewals.{added}
use Rattle.lease_manager.proofs.leases.Leases.take.Goals as goal

pub invariant_of-self : goal.invariant_of-self
invariant_of-self c = (
  renewals_kept c.args.client.now c.args.now c.self.inside.renewals.entries c.renew_present.new.renewals.entries c.self.invariant.0
      (subst (λ (leases : Leases). latest_moment leases.renewals ≤ c.args.now) (sym c.self.view_is) c.requires)
      c.if-renew_present.ensures.renewed.0 c.if-renew_present.ensures.renewed.1,
  c.if-renew_present.ensures.cap ∙ c.self.invariant.1,
)

made : (c : goal.After-len-behind) → renewals_of c.put.new.self.entries ≡ renewals_with c.args.client.now c.args.now (renewals_of c.self.inside.renewals.entries)
made c =
    let es = c.self.inside.renewals.entries in
    let unchanged : c.renew_present.new.renewals ≡ c.self.inside.renewals = c.if-renew_present.ensures.renewed in
    let room : length es ≤ c.self.inside.renewals.cap - 1 =
    omega (arith, c.len-before.ensures.len, c.len-before.ensures.fits, ap (λ cache. length cache.entries) unchanged, c.self.invariant.1) in
    added c.args.client.now c.in_ok-clone.field-0 c.args.now c.self.inside.renewals.cap es c.put.new.self.entries room c.in_ok-clone.ensures.cases
    (ap (λ cache. cache.entries) c.in_ok-put.ensures.entries ∙ ap (λ cache. put_entries same cache c.in_ok-clone.field-0 c.args.now) unchanged)
    (sym c.if-renew_present.ensures.there)

pub invariant_of-self-2 : goal.invariant_of-self-2
invariant_of-self-2 c = (
  renewals_kept c.args.client.now c.args.now c.self.inside.renewals.entries c.put.new.self.entries c.self.invariant.0
      (subst (λ (leases : Leases). latest_moment leases.renewals ≤ c.args.now) (sym c.self.view_is) c.requires)
      (made c) c.len-behind.ensures.valid.0,
  ap (λ cache. cache.cap) c.in_ok-put.ensures.entries ∙ c.if-renew_present.ensures.cap ∙ c.self.invariant.1,
)

pub returns-clause-ok : goal.returns-clause-ok
returns-clause-ok c =
    ap (λ rs. record { limits = record { soft = c.self.inside.soft; hard = c.self.inside.hard }; renewals = rs }) (made c)
    ∙ ap (λ (leases : Leases). after_renewal leases c.args.client.now c.args.now) c.self.view_is

pub returns-then-renew_present-clause-latest : goal.returns-then-renew_present-clause-latest
returns-then-renew_present-clause-latest c =
    ap latest_moment c.if-renew_present.ensures.renewed.0
    ∙ renewed_latest c.args.client.now c.args.now (renewals_of c.self.inside.renewals.entries)
    (subst (λ (leases : Leases). latest_moment leases.renewals ≤ c.args.now) (sym c.self.view_is) c.requires)

pub returns-clause-latest : goal.returns-clause-latest
returns-clause-latest c =
    ap latest_moment (made c)
    ∙ renewed_latest c.args.client.now c.args.now (renewals_of c.self.inside.renewals.entries)
    (subst (λ (leases : Leases). latest_moment leases.renewals ≤ c.args.now) (sym c.self.view_is) c.requires)
