-- Each client with open files has a lease, behind a file that is opened or closed, and behind a renewal.
use Rattle.std.proofs.Common.{◌≡◌, ℕ, ◌+◌, ◌-◌, ◌<◌, ◌≤◌, Bool, true, false, nat_lt, List, [], ◌∷◌, ◌++◌, filter, length, Option, Some, None, arith, refl, sym, ap, ◌∙◌, cond}
use Rattle.std.proofs.lemmas.Bool.{lt-ltb}
use Rattle.std.proofs.lemmas.List.Elements.{filter-append}
use Rattle.std.proofs.lemmas.List.{length-append}
use Rattle.hdfs_values.specs.Text.{same}
use Rattle.hdfs_values.proofs.Texts.{same_is, same_symm}
use Rattle.lease_manager.specs.Leases.{renewals_without, renewals_with}
use Rattle.lease_manager.specs.declared.writers.Writers.{Writers}
use Rattle.lease_manager.specs.Writers.{count_of, renewal_moment_of, IsLeased, renewed_at}
use Rattle.lease_manager.proofs.Moments.{moment_released, moment_renewed}

more : (n : ℕ) → nat_lt 0 (n + 1) ≡ true
more n = lt-ltb 0 (n + 1) (omega arith)

abbrev CountsOne : ℕ → (old new : Writers) → List ℕ → Type 0
CountsOne n old new client = (other : List ℕ) → count_of new.files other ≡ cond (same client other) n (count_of old.files other)

pub leased_open : (old new : Writers) (client : List ℕ) (now : ℕ) (last : List ℕ → Option ℕ) → new.leases.renewals ≡ renewals_with client now old.leases.renewals
    → ((other : List ℕ) → count_of new.files other ≡ cond (same client other) (count_of old.files client + 1) (count_of old.files other)) → IsLeased last old → IsLeased (renewed_at client now last) new
leased_open old new client now last renewals counts leased other =
    ap (λ rs. renewal_moment_of rs other) renewals ∙ (moment_renewed client now old.leases.renewals other
    ∙ (by (same client other) ∙ ap (λ n. cond (nat_lt 0 n) (renewed_at client now last other) None) (sym (counts other))))
  where
    by : (b : Bool) → cond b (Some now) (renewal_moment_of old.leases.renewals other) ≡ cond (nat_lt 0 (cond b (count_of old.files client + 1) (count_of old.files other))) (cond b (Some now) (last other)) None
    by true = ap (λ c. cond c (Some now) None) (sym (more (count_of old.files client)))
    by false = leased other

pub leased_renew : (old new : Writers) (client : List ℕ) (now : ℕ) (last : List ℕ → Option ℕ) → new.leases.renewals ≡ renewals_with client now old.leases.renewals → new.files ≡ old.files
    → 0 < count_of old.files client → IsLeased last old → IsLeased (renewed_at client now last) new
leased_renew old new client now last renewals files some leased other =
    ap (λ rs. renewal_moment_of rs other) renewals ∙ (moment_renewed client now old.leases.renewals other
    ∙ (by (same client other) refl ∙ ap (λ fs. cond (nat_lt 0 (count_of fs other)) (renewed_at client now last other) None) (sym files)))
  where
    by : (b : Bool) → same client other ≡ b → cond b (Some now) (renewal_moment_of old.leases.renewals other) ≡ cond (nat_lt 0 (count_of old.files other)) (cond b (Some now) (last other)) None
    by true at = ap (λ c. cond c (Some now) None) (sym (lt-ltb 0 (count_of old.files client) some)) ∙ ap (λ who. cond (nat_lt 0 (count_of old.files who)) (Some now) None) (same_is client other at)
    by false at = leased other

less : (n number : ℕ) → 0 < n - number → nat_lt 0 n ≡ true
less n number h = lt-ltb 0 n (omega (arith, h))

-- a client that has files left keeps its lease
pub leased_kept : (old new : Writers) (client : List ℕ) (number : ℕ) (last : List ℕ → Option ℕ) → new.leases.renewals ≡ old.leases.renewals
    → ((other : List ℕ) → count_of new.files other ≡ cond (same client other) (count_of old.files client - number) (count_of old.files other))
    → 0 < count_of old.files client - number → IsLeased last old → IsLeased last new
leased_kept old new client number last renewals counts some leased other =
    ap (λ rs. renewal_moment_of rs other) renewals ∙ (leased other ∙ (by (same client other) refl ∙ ap (λ n. cond (nat_lt 0 n) (last other) None) (sym (counts other))))
  where
    by : (b : Bool) → same client other ≡ b
        → cond (nat_lt 0 (count_of old.files other)) (last other) None ≡ cond (nat_lt 0 (cond b (count_of old.files client - number) (count_of old.files other))) (last other) None
    by true at =
        ap (λ who. cond (nat_lt 0 (count_of old.files who)) (last other) None) (sym (same_is client other at))
        ∙ (ap (λ c. cond c (last other) None) (less (count_of old.files client) number some) ∙ ap (λ c. cond c (last other) None) (sym (lt-ltb 0 (count_of old.files client - number) some)))
    by false at = refl

none_left : (n : ℕ) → n ≤ 0 → nat_lt 0 n ≡ false
none_left n h = ap (nat_lt 0) (zero_is n h)
  where
    zero_is : (n : ℕ) → n ≤ 0 → n ≡ 0
    zero_is n h = omega (arith, h)

-- and with its last file it loses it
pub leased_ended : (old new : Writers) (client : List ℕ) (number : ℕ) (last : List ℕ → Option ℕ) → new.leases.renewals ≡ renewals_without client old.leases.renewals
    → ((other : List ℕ) → count_of new.files other ≡ cond (same client other) (count_of old.files client - number) (count_of old.files other))
    → count_of old.files client - number ≤ 0 → IsLeased last old → IsLeased last new
leased_ended old new client number last renewals counts none leased other =
    ap (λ rs. renewal_moment_of rs other) renewals ∙ (moment_released client old.leases.renewals other
    ∙ (by (same client other) ∙ ap (λ n. cond (nat_lt 0 n) (last other) None) (sym (counts other))))
  where
    by : (b : Bool) → cond b None (renewal_moment_of old.leases.renewals other) ≡ cond (nat_lt 0 (cond b (count_of old.files client - number) (count_of old.files other))) (last other) None
    by true = ap (λ c. cond c (last other) None) (sym (none_left (count_of old.files client - number) none))
    by false = leased other

-- ---- a client more

pub one_more : (other client : List ℕ) (clients : List (List ℕ)) (all left after : ℕ) → left ≡ all - length (filter (same other) clients) → after ≡ cond (same client other) (left - 1) left
    → after ≡ all - length (filter (same other) (clients ++ client ∷ []))
one_more other client clients all left after before is = by (same client other) refl is
  where
    whole : length (filter (same other) (clients ++ client ∷ [])) ≡ length (filter (same other) clients) + length (filter (same other) (client ∷ []))
    whole = ap length (filter-append (same other) clients (client ∷ [])) ∙ length-append (filter (same other) clients) (filter (same other) (client ∷ []))

    bit : (b : Bool) → same client other ≡ b → length (filter (same other) (client ∷ [])) ≡ cond b 1 0
    bit true at = ap (λ c. length (cond c (client ∷ []) [])) (same_symm other client ∙ at)
    bit false at = ap (λ c. length (cond c (client ∷ []) [])) (same_symm other client ∙ at)

    by : (b : Bool) → same client other ≡ b → after ≡ cond b (left - 1) left → after ≡ all - length (filter (same other) (clients ++ client ∷ []))
    by true at e = sum1 after left all (length (filter (same other) clients)) (length (filter (same other) (clients ++ client ∷ []))) e before (whole ∙ ap (λ n. length (filter (same other) clients) + n) (bit true at))
      where
        sum1 : (after left all some more : ℕ) → after ≡ left - 1 → left ≡ all - some → more ≡ some + 1 → after ≡ all - more
        sum1 after left all some more a b c = omega (arith, a, b, c)
    by false at e = sum0 after left all (length (filter (same other) clients)) (length (filter (same other) (clients ++ client ∷ []))) e before (whole ∙ ap (λ n. length (filter (same other) clients) + n) (bit false at))
      where
        sum0 : (after left all some more : ℕ) → after ≡ left → left ≡ all - some → more ≡ some + 0 → after ≡ all - more
        sum0 after left all some more a b c = omega (arith, a, b, c)

-- ---- room that was made before

pub more_after : (old between after client_old client_between : ℕ) (b : Bool) → after ≡ cond b (client_between + 1) between → client_between ≡ client_old → between ≡ old → after ≡ cond b (client_old + 1) old
more_after old between after client_old client_between b is c o = is ∙ (ap (λ n. cond b (n + 1) between) c ∙ ap (λ n. cond b (client_old + 1) n) o)

-- what is left of a client's files, as it is counted
pub some_left : (n number m k r : ℕ) (b : Bool) → b ≡ true → m ≡ cond b (n - number) k → r ≡ m → 0 < r → 0 < n - number
some_left n number m k r true at is counted h = omega (arith, is, counted, h)
some_left n number m k r false at is counted h = cc

pub nothing_left : (n number m k r : ℕ) (b : Bool) → b ≡ true → m ≡ cond b (n - number) k → r ≡ m → r ≤ 0 → n - number ≤ 0
nothing_left n number m k r true at is counted h = omega (arith, is, counted, h)
nothing_left n number m k r false at is counted h = cc

-- it is the client's own number that falls
pub own_less : (f : List ℕ → ℕ) (client other : List ℕ) → cond (same client other) (f client - 1) (f other) ≡ cond (same client other) (f other - 1) (f other)
own_less f client other = by (same client other) refl
  where
    by : (b : Bool) → same client other ≡ b → cond b (f client - 1) (f other) ≡ cond b (f other - 1) (f other)
    by true at = ap (λ who. f who - 1) (same_is client other at)
    by false at = refl
