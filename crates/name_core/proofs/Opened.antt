-- What a core opens with: nobody has a file open, and nobody has a lease.
use Rattle.std.proofs.Common.{◌≡◌, ℕ, List, [], ◌∷◌, refl, sym, subst}
use Rattle.namespace_rows.specs.declared.row.Row.{Row}
use Rattle.namespace_rows.specs.Opening.{root_row}
use Rattle.lease_manager.specs.declared.writers.Writers.{Writers}
use Rattle.history.specs.ClockAndLease.{last_renewal}
use Rattle.history.specs.State.{superuser, supergroup}
use Rattle.file_effects.specs.Effected.{IsExact}

pub opened_exact : (rows : List Row) (writers : Writers) (soft hard : ℕ) → rows ≡ root_row superuser supergroup ∷ []
    → writers ≡ record { leases = record { limits = record { soft = soft; hard = hard }; renewals = [] }; files = [] } → IsExact (last_renewal []) rows writers
opened_exact rows writers soft hard r w =
    subst (λ rows. IsExact (last_renewal []) rows writers) (sym r)
    (subst (λ writers. IsExact (last_renewal []) (root_row superuser supergroup ∷ []) writers) (sym w) (record { files = λ client. refl; leased = λ client. refl }))
