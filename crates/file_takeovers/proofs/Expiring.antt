-- The clients whose leases are past the hard limit, by the list of these clients and by their last renewals.
use Rattle.std.proofs.Common.{◌≡◌, ℕ, ◌-◌, ◌<◌, Bool, true, false, ◌||◌, nat_lt, List, [], ◌∷◌, filter, reverse, length, get_or, Some, refl, sym, ap, ◌∙◌, cond, arith}
use Rattle.std.proofs.lemmas.List.{length-reverse, get_or-reverse}
use Rattle.std.proofs.lemmas.List.Folds.{list_any_at}
use Rattle.std.specs.List.{AllByRecursion, IsDistinct}
use Rattle.hdfs_values.specs.Text.{same}
use Rattle.hdfs_values.proofs.Texts.{same_is, same_symm, same_self}
use Rattle.lease_manager.specs.Leases.{Limits, Renewal, age, renewals_past_hard, clients}
use Rattle.lease_manager.specs.declared.leases.LeaseState.TheVariants.{Live, PastSoft, PastHard}
use Rattle.history.specs.ClockAndLease.{is_past_hard, state_at}
use Rattle.lease_manager.specs.Writers.{renewal_moment_of}
use Rattle.lease_manager.proofs.Moments.{shown}
use Rattle.file_takeovers.specs.Expiry.{is_among}

-- ---- clients

module _ (limits : Limits) (now : ℕ) (client : List ℕ) where
  abbrev hard : Renewal → Bool
  hard r = nat_lt limits.hard (age r.moment now)

  hard_is : (moment : ℕ) → is_past_hard (state_at limits now (Some moment)) ≡ nat_lt limits.hard (age moment now)
  hard_is moment = by (nat_lt limits.hard (age moment now)) (nat_lt limits.soft (age moment now))
    where
      by : (h s : Bool) → is_past_hard (Some (cond h PastHard (cond s PastSoft Live))) ≡ h
      by true s = refl
      by false true = refl
      by false false = refl

  none_among : (who : List ℕ) (rs : List Renewal) → same client who ≡ true → AllByRecursion (λ other. same who other ≡ false) (clients rs) → is_among (clients (filter hard rs)) client ≡ false
  none_among who [] at apart = refl
  none_among who (r ∷ rs) at apart = by (hard r) (none_among who rs at apart.1)
    where
      other : same r.client client ≡ false
      other = ap (same r.client) (same_is client who at) ∙ (same_symm r.client who ∙ apart.0)

      by : (b : Bool) → is_among (clients (filter hard rs)) client ≡ false → is_among (clients (cond b (r ∷ filter hard rs) (filter hard rs))) client ≡ false
      by true rest = ap (λ c. c || is_among (clients (filter hard rs)) client) other ∙ rest
      by false rest = rest

  pub among_is : (rs : List Renewal) → IsDistinct same (clients rs) → is_among (clients (renewals_past_hard limits now rs)) client ≡ is_past_hard (state_at limits now (renewal_moment_of rs client))
  unfolding IsDistinct
  among_is [] distinct = refl
  among_is (r ∷ rs) distinct = by (hard r) (same client r.client) refl refl (among_is rs distinct.1) ∙ ap (λ m. is_past_hard (state_at limits now m)) (sym (shown client r rs))
    where
      by : (h b : Bool) → hard r ≡ h → same client r.client ≡ b → is_among (clients (renewals_past_hard limits now rs)) client ≡ is_past_hard (state_at limits now (renewal_moment_of rs client))
          → is_among (clients (cond h (r ∷ filter hard rs) (filter hard rs))) client ≡ is_past_hard (state_at limits now (cond b (Some r.moment) (renewal_moment_of rs client)))
      by true true k at rest = ap (λ c. c || is_among (clients (filter hard rs)) client) (same_symm r.client client ∙ at) ∙ sym (hard_is r.moment ∙ k)
      by false true k at rest = none_among r.client rs at distinct.0 ∙ sym (hard_is r.moment ∙ k)
      by true false k at rest = ap (λ c. c || is_among (clients (filter hard rs)) client) (same_symm r.client client ∙ at) ∙ rest
      by false false k at rest = rest

-- ---- one of them

-- one that is gone to from the last on
pub among_reversed : (clients : List (List ℕ)) (i : ℕ) (client : List ℕ) → i < length (reverse clients) → client ≡ get_or (reverse clients) i client → is_among clients client ≡ true
among_reversed clients i client short at =
    let within : i < length clients = omega (arith, short, length-reverse clients) in
    list_any_at (λ other. same other client) clients (length clients - 1 - i) client (omega (arith, within))
    (ap (λ other. same other client) (sym (at ∙ get_or-reverse clients i client within)) ∙ same_self client)
