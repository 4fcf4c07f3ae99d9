-- When each client last renewed its lease, behind a renewal and a release.
use Rattle.std.proofs.Common.{append-nil, ◌≡◌, ℕ, Bool, true, false, List, [], ◌∷◌, ◌++◌, not, Option, Some, None, refl, sym, ap, ◌∙◌, cond}
use Rattle.std.proofs.lemmas.List.Elements.{filter-append}
use Rattle.std.specs.Option.{option_map, option_or}
use Rattle.hdfs_values.specs.Text.{same}
use Rattle.hdfs_values.proofs.Texts.{same_is, same_self, same_symm}
use Rattle.lease_manager.specs.Leases.{Leases, Renewal, renewals_without, renewals_with, renewal_of, after_renewal, after_release}
use Rattle.lease_manager.specs.Writers.{renewal_moment_of}

differ : true ≡ false → ⊥
differ e = cc

-- the first renewal is the client's, or it isn't
pub shown : (other : List ℕ) (r : Renewal) (rs : List Renewal) → renewal_moment_of (r ∷ rs) other ≡ cond (same other r.client) (Some r.moment) (renewal_moment_of rs other)
shown other r rs = by (same other r.client)
  where
    by : (b : Bool) → option_map (λ (x : Renewal). x.moment) (cond b (Some r) (renewal_of other rs)) ≡ cond b (Some r.moment) (renewal_moment_of rs other)
    by true = refl
    by false = refl

first : (other : List ℕ) (r : Renewal) (rs : List Renewal) → same other r.client ≡ true → renewal_moment_of (r ∷ rs) other ≡ Some r.moment
first other r rs at = shown other r rs ∙ ap (λ b. cond b (Some r.moment) (renewal_moment_of rs other)) at

later : (other : List ℕ) (r : Renewal) (rs : List Renewal) → same other r.client ≡ false → renewal_moment_of (r ∷ rs) other ≡ renewal_moment_of rs other
later other r rs at = shown other r rs ∙ ap (λ b. cond b (Some r.moment) (renewal_moment_of rs other)) at

pub moment_appended : (rs : List Renewal) (r : Renewal) (other : List ℕ) → renewal_moment_of (rs ++ r ∷ []) other ≡ option_or (renewal_moment_of rs other) (cond (same other r.client) (Some r.moment) None)
moment_appended [] r other = shown other r []
moment_appended (q ∷ rs) r other = shown other q (rs ++ r ∷ []) ∙ (by (same other q.client) (moment_appended rs r other) ∙ ap (λ m. option_or m (cond (same other r.client) (Some r.moment) None)) (sym (shown other q rs)))
  where
    by : (b : Bool) → renewal_moment_of (rs ++ r ∷ []) other ≡ option_or (renewal_moment_of rs other) (cond (same other r.client) (Some r.moment) None)
        → cond b (Some q.moment) (renewal_moment_of (rs ++ r ∷ []) other) ≡ option_or (cond b (Some q.moment) (renewal_moment_of rs other)) (cond (same other r.client) (Some r.moment) None)
    by true e = refl
    by false e = e

module _ (client : List ℕ) where
  pub moment_released : (rs : List Renewal) (other : List ℕ) → renewal_moment_of (renewals_without client rs) other ≡ cond (same client other) None (renewal_moment_of rs other)
  moment_released [] other = by (same client other)
    where
      by : (b : Bool) → None ≡ cond b None (renewal_moment_of [] other)
      by true = refl
      by false = refl
  moment_released (r ∷ rs) other = by (same client r.client) (same other r.client) (same client other) refl refl refl (moment_released rs other)
    where
      by : (a b s : Bool) → same client r.client ≡ a → same other r.client ≡ b → same client other ≡ s → renewal_moment_of (renewals_without client rs) other ≡ cond s None (renewal_moment_of rs other)
          → renewal_moment_of (cond (not a) (r ∷ renewals_without client rs) (renewals_without client rs)) other ≡ cond s None (renewal_moment_of (r ∷ rs) other)
      by true b true at near is rest = rest
      by true true false at near is rest =
          let one : same client other ≡ true = ap (λ who. same who other) (same_is client r.client at) ∙ (same_symm r.client other ∙ near) in
          absurd (differ (sym one ∙ is))
      by true false false at near is rest = rest ∙ sym (later other r rs near)
      by false true true at near is rest =
          let one : same client r.client ≡ true = ap (λ who. same client who) (sym (same_is other r.client near)) ∙ is in
          absurd (differ (sym one ∙ at))
      by false true false at near is rest = first other r (renewals_without client rs) near ∙ sym (first other r rs near)
      by false false s at near is rest = later other r (renewals_without client rs) near ∙ (rest ∙ ap (λ m. cond s None m) (sym (later other r rs near)))

  pub moment_renewed : (now : ℕ) (rs : List Renewal) (other : List ℕ) → renewal_moment_of (renewals_with client now rs) other ≡ cond (same client other) (Some now) (renewal_moment_of rs other)
  moment_renewed now rs other =
      moment_appended (renewals_without client rs) (record { client = client; moment = now }) other
      ∙ (ap (λ m. option_or m (cond (same other client) (Some now) None)) (moment_released rs other)
      ∙ (ap (λ b. option_or (cond (same client other) None (renewal_moment_of rs other)) (cond b (Some now) None)) (same_symm other client) ∙ by (same client other) (renewal_moment_of rs other)))
    where
      by : (b : Bool) (m : Option ℕ) → option_or (cond b None m) (cond b (Some now) None) ≡ cond b (Some now) m
      by true m = refl
      by false None = refl
      by false (Some x) = refl

  -- a release undoes the first renewal of a client
  absent_stays : (rs : List Renewal) → renewal_moment_of rs client ≡ None → renewals_without client rs ≡ rs
  absent_stays [] none = refl
  absent_stays (r ∷ rs) none = by (same client r.client) refl (absent_stays rs)
    where
      by : (b : Bool) → same client r.client ≡ b → (renewal_moment_of rs client ≡ None → renewals_without client rs ≡ rs) → cond (not b) (r ∷ renewals_without client rs) (renewals_without client rs) ≡ r ∷ rs
      by true at rest = absurd (some_none r.moment (sym (first client r rs at) ∙ none))
        where
          some_none : (n : ℕ) → Some n ≡ None → ⊥
          some_none n e = cc
      by false at rest = ap (λ xs. r ∷ xs) (rest (sym (later client r rs at) ∙ none))

  pub undone : (now : ℕ) (rs : List Renewal) → renewal_moment_of rs client ≡ None → renewals_without client (renewals_with client now rs) ≡ rs
  undone now rs none =
      ap (λ xs. renewals_without client (xs ++ record { client = client; moment = now } ∷ [])) (absent_stays rs none)
      ∙ (filter-append (λ r. not (same client r.client)) rs (record { client = client; moment = now } ∷ [])
      ∙ (ap (λ b. renewals_without client rs ++ cond (not b) (record { client = client; moment = now } ∷ []) []) (same_self client)
      ∙ (append-nil (renewals_without client rs) ∙ absent_stays rs none)))

pub undone_leases : (old taken left : Leases) (client : List ℕ) (now : ℕ) → taken ≡ after_renewal old client now → left ≡ after_release taken client → renewal_moment_of old.renewals client ≡ None → left ≡ old
undone_leases old taken left client now took released none =
    released ∙ (ap (λ l. after_release l client) took ∙ ap (λ rs. record { limits = old.limits; renewals = rs }) (undone client now old.renewals none))
