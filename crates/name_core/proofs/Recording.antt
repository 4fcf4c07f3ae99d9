-- What a step records.
use Rattle.std.proofs.Common.{◌≡◌, ℕ, ◌+◌, ◌≤◌, max, [], ◌∷◌, ◌++◌, length, ap, refl, sym, ◌∙◌, subst}
use Rattle.hdfs_types.specs.declared.op.Request.{Request}
use Rattle.flat_rows.specs.declared.verdict.Verdict.{Verdict}
use Rattle.lease_manager.specs.Leases.{latest_moment}
use Rattle.history.specs.ClockAndLease.{last_renewal}
use Rattle.history.specs.Grants.{rows_granted}
use Rattle.name_core.specs.declared.namenode.NameCore.TheInside.{Inside}
use Rattle.namesystem.specs.declared.told.Told.{Told}
use Rattle.name_core.specs.NameCore.{Steps, with_next_entry}
use Rattle.name_core.specs.Kept.{IsKept, core_of, entries_of, opening_of}
use Rattle.namesystem.specs.Performed.{IsPerformed}
use Rattle.name_core.proofs.Keeping.{Adds, steps_is}

pub adds_of : (a b : Inside) (kept r : Request) (n pass index : ℕ) (verdict : Verdict) → kept ≡ r → opening_of b ≡ opening_of a
    → b.history.items ≡ a.history.items ++ record { place = n; pass = pass; index = index; request = kept; verdict = verdict } ∷ [] → b.clock ≡ max a.clock r.moment
    → IsPerformed (last_renewal (entries_of a)) b.clock r.caller r.op a.system verdict b.system → b.system.writers.leases.limits ≡ a.system.writers.leases.limits → latest_moment b.system.writers.leases.renewals ≤ b.clock → n ≡ length a.history.items + 1
    → b.ledger.rows ≡ a.ledger.rows ++ rows_granted n a.system.ring b.clock r.caller r.op verdict → Adds a b (record { place = n; pass = pass; index = index; request = kept; verdict = verdict })
adds_of a b kept r n pass index verdict is opening history clock performed limits late place entered =
    subst (λ k. b.history.items ≡ a.history.items ++ record { place = n; pass = pass; index = index; request = k; verdict = verdict } ∷ [] → Adds a b (record { place = n; pass = pass; index = index; request = k; verdict = verdict })) (sym is)
    (λ h. record { opening = opening; history = h; clock = clock; stepped = performed.stepped; ring = performed.ring; blocks = performed.blocks; ledger = entered; exact = performed.exact; limits = limits; latest = late; place = place }) history

-- one entry more
pub appended : (a b : Inside) (r : Request) (n pass index : ℕ) (verdict : Verdict) → IsKept a → Adds a b (record { place = n; pass = pass; index = index; request = r; verdict = verdict }) → core_of b ≡ with_next_entry (core_of a) pass index r
appended a b r n pass index verdict k adds = (steps_is a b _ n pass index r verdict (record { place = n; request = r; verdict = verdict }) k adds refl refl).new_is

-- and the answer is that entry's
pub recorded : (a b : Inside) (kept answered r : Request) (n pass index : ℕ) (told : Told) → IsKept a → kept ≡ r → answered ≡ r → told.copy ≡ told.verdict
    → Adds a b (record { place = n; pass = pass; index = index; request = kept; verdict = told.verdict }) → Steps (core_of a) pass index r (record { place = n; request = answered; verdict = told.copy }) (core_of b)
recorded a b kept answered r n pass index told k is also copy adds =
    steps_is a b _ n pass index r told.verdict _ k adds (ap (λ x. record { place = n; pass = pass; index = index; request = x; verdict = told.verdict }) is)
    (ap (λ x. record { place = n; request = x; verdict = told.copy }) also ∙ ap (λ x. record { place = n; request = r; verdict = x }) copy)
