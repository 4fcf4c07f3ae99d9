-- Moments that don't fall, once a renewal goes or comes.
use Rattle.std.proofs.Common.{◌≡◌, ℕ, ◌≤◌, Bool, true, false, cond, List, [], ◌∷◌, ◌++◌, filter, max, not, sym, subst, arith}
use Rattle.std.specs.List.{AllByRecursion, IsDistinct}
use Rattle.std.specs.Map.{keys_of}
use Rattle.hdfs_values.specs.Text.{same}
use Rattle.lease_manager.specs.Leases.{Renewal, renewals_without, renewals_with, latest_moment, AreInOrder, AreRenewals}
use Rattle.lease_manager.specs.Shown.{renewals_of}
use Rattle.lease_manager.proofs.Renewals.{Entries, are_renewals}

all_kept : (P : Renewal → Type 0) (p : Renewal → Bool) (rs : List Renewal) → AllByRecursion P rs → AllByRecursion P (filter p rs)
all_kept P p [] all = tt
all_kept P p (r ∷ rs) all =
    elim (p r) as (λ b. AllByRecursion P (cond b (r ∷ filter p rs) (filter p rs))) [ true ↦ (all.0, all_kept P p rs all.1) | false ↦ all_kept P p rs all.1 ]

kept_in_order : (p : Renewal → Bool) (rs : List Renewal) → AreInOrder rs → AreInOrder (filter p rs)
kept_in_order p [] order = tt
kept_in_order p (r ∷ rs) order =
    elim (p r) as (λ b. AreInOrder (cond b (r ∷ filter p rs) (filter p rs)))
    [ true ↦ (all_kept (λ other. r.moment ≤ other.moment) p rs order.0, kept_in_order p rs order.1) | false ↦ kept_in_order p rs order.1 ]

kept_latest : (p : Renewal → Bool) (rs : List Renewal) → latest_moment (filter p rs) ≤ latest_moment rs
kept_latest p [] = omega arith
kept_latest p (r ∷ rs) =
    let rest : latest_moment (filter p rs) ≤ latest_moment rs = kept_latest p rs in
    elim (p r) as (λ b. latest_moment (cond b (r ∷ filter p rs) (filter p rs)) ≤ max r.moment (latest_moment rs)) [ true ↦ omega arith | false ↦ omega arith ]

all_pushed : (P : Renewal → Type 0) (rs : List Renewal) (r : Renewal) → AllByRecursion P rs → P r → AllByRecursion P (rs ++ r ∷ [])
all_pushed P [] r all one = (one, tt)
all_pushed P (s ∷ rs) r all one = (all.0, all_pushed P rs r all.1 one)

pushed_in_order : (rs : List Renewal) (r : Renewal) → AreInOrder rs → latest_moment rs ≤ r.moment → AreInOrder (rs ++ r ∷ [])
pushed_in_order [] r order late = (tt, tt)
pushed_in_order (s ∷ rs) r order late =
    (all_pushed (λ other. s.moment ≤ other.moment) rs r order.0 (omega arith), pushed_in_order rs r order.1 (omega arith))

pushed_latest : (rs : List Renewal) (r : Renewal) → latest_moment rs ≤ r.moment → latest_moment (rs ++ r ∷ []) ≡ r.moment
pushed_latest [] r late = omega arith
pushed_latest (s ∷ rs) r late =
    let rest : latest_moment (rs ++ r ∷ []) ≡ r.moment = pushed_latest rs r (omega arith) in
    omega arith

pub released_in_order : (client : List ℕ) (rs : List Renewal) → AreInOrder rs → AreInOrder (renewals_without client rs)
released_in_order client rs order = kept_in_order (λ r. not (same client r.client)) rs order

pub released_latest : (client : List ℕ) (rs : List Renewal) → latest_moment (renewals_without client rs) ≤ latest_moment rs
released_latest client rs = kept_latest (λ r. not (same client r.client)) rs

pub renewed_in_order : (client : List ℕ) (now : ℕ) (rs : List Renewal) → AreInOrder rs → latest_moment rs ≤ now → AreInOrder (renewals_with client now rs)
renewed_in_order client now rs order late =
    let before : latest_moment (renewals_without client rs) ≤ latest_moment rs = released_latest client rs in
    pushed_in_order (renewals_without client rs) (record { client = client; moment = now }) (released_in_order client rs order) (omega arith)

pub renewed_latest : (client : List ℕ) (now : ℕ) (rs : List Renewal) → latest_moment rs ≤ now → latest_moment (renewals_with client now rs) ≡ now
renewed_latest client now rs late =
    let before : latest_moment (renewals_without client rs) ≤ latest_moment rs = released_latest client rs in
    pushed_latest (renewals_without client rs) (record { client = client; moment = now }) (omega arith)

pub renewals_kept : (client : List ℕ) (now : ℕ) (old new : Entries) → AreRenewals (renewals_of old) → latest_moment (renewals_of old) ≤ now
    → renewals_of new ≡ renewals_with client now (renewals_of old) → IsDistinct same (keys_of new) → AreRenewals (renewals_of new)
renewals_kept client now old new kept late made distinct =
    are_renewals new distinct (subst AreInOrder (sym made) (renewed_in_order client now (renewals_of old) kept.1 late))
