-- One more entry keeps what a core keeps, and so does what is undone.
use Rattle.std.proofs.Common.{◌≡◌, ℕ, ◌+◌, ◌≤◌, nat_lt, max, [], ◌∷◌, ◌++◌, length, reverse, None, ap, sym, ◌∙◌, subst, cond}
use Rattle.std.proofs.lemmas.List.{reverse-append, length-reverse}
use Rattle.hdfs_types.specs.declared.op.Request.{Request}
use Rattle.lease_manager.specs.Leases.{Leases, latest_moment}
use Rattle.lease_manager.specs.Writers.{renewal_moment_of}
use Rattle.flat_rows.specs.declared.verdict.Verdict.{Verdict}
use Rattle.flat_rows.specs.Facts.{Facts}
use Rattle.flat_rows.specs.Outcome.{Step, step}
use Rattle.history.specs.declared.entry.HistoryEntry.{HistoryEntry}
use Rattle.history.specs.declared.entry.Answer.{Answer}
use Rattle.history.specs.Config.{Opening, limits_of}
use Rattle.history.specs.ClockAndLease.{clock_of, last_renewal, renews, lease_in}
use Rattle.history.specs.Keys.{ring_of, ring_by}
use Rattle.history.specs.Blocks.{blocks_by}
use Rattle.history.specs.Grants.{rows_granted, ledger_of}
use Rattle.history.specs.State.{facts_with, rows_of, blocks_of, users_of, rows_by, users_by}
use Rattle.history.specs.LegalHistory.{IsLegal, verdict_of}
use Rattle.name_core.specs.declared.namenode.NameCore.TheInside.{Inside}
use Rattle.name_core.specs.NameCore.{Steps, entry_for}
use Rattle.name_core.specs.Kept.{IsKept, core_of, entries_of, opening_of}
use Rattle.file_effects.specs.Effected.{IsExact, renewed_where}
use Rattle.namesystem.specs.Performed.{IsUndone, facts_in}
use Rattle.namesystem.proofs.Stepping.{stepped_rows, stepped_users, same_facts, same_step}

-- what a step does to the fields
pub record Adds (a b : Inside) (e : HistoryEntry) : Type 0 where
  pub opening : opening_of b ≡ opening_of a
  pub history : b.history.items ≡ a.history.items ++ e ∷ []
  pub clock : b.clock ≡ max a.clock e.request.moment
  pub stepped : record { verdict = e.verdict; rows = b.system.tree; users = b.system.users } ≡ step (facts_in (last_renewal (entries_of a)) b.clock a.system) a.system.tree a.system.users e.request.caller e.request.op
  pub ring : b.system.ring ≡ ring_by e.request.op e.verdict b.clock a.system.ring
  pub blocks : b.system.blocks ≡ blocks_by (facts_in (last_renewal (entries_of a)) b.clock a.system) e.request.op e.request.caller e.verdict a.system.tree a.system.blocks
  pub ledger : b.ledger.rows ≡ a.ledger.rows ++ rows_granted e.place a.system.ring b.clock e.request.caller e.request.op e.verdict
  pub exact : IsExact (renewed_where (renews e.request.op e.verdict) e.request.caller b.clock (last_renewal (entries_of a))) b.system.tree b.system.writers
  pub limits : b.system.writers.leases.limits ≡ a.system.writers.leases.limits
  pub latest : latest_moment b.system.writers.leases.renewals ≤ b.clock
  pub place : e.place ≡ length a.history.items + 1

pub entries_more : (a b : Inside) (e : HistoryEntry) → Adds a b e → entries_of b ≡ e ∷ entries_of a
entries_more a b e h = ap reverse h.history ∙ reverse-append a.history.items (e ∷ [])

clock_more : (a b : Inside) (e : HistoryEntry) → IsKept a → Adds a b e → b.clock ≡ clock_of (e ∷ entries_of a)
clock_more a b e k h = h.clock ∙ ap (λ n. max n e.request.moment) k.clock

abbrev facts_now : Inside → HistoryEntry → Facts
facts_now a e = facts_with (limits_of a.config) (clock_of (e ∷ entries_of a)) (lease_in (last_renewal (entries_of a)) (rows_of (opening_of a) (entries_of a))) (ring_of (opening_of a) (entries_of a)) (blocks_of (opening_of a) (entries_of a))

abbrev step_now : Inside → HistoryEntry → Step
step_now a e = step (facts_now a e) (rows_of (opening_of a) (entries_of a)) (users_of (entries_of a)) e.request.caller e.request.op

-- what a step asks is what the history gives
facts_are : (a b : Inside) (e : HistoryEntry) → IsKept a → Adds a b e → facts_in (last_renewal (entries_of a)) b.clock a.system ≡ facts_now a e
facts_are a b e k h =
    same_facts a.system.writers.leases.limits (limits_of a.config) b.clock (clock_of (e ∷ entries_of a)) (last_renewal (entries_of a)) a.system.tree (rows_of (opening_of a) (entries_of a)) a.system.ring (ring_of (opening_of a) (entries_of a)) a.system.blocks (blocks_of (opening_of a) (entries_of a)) k.limits (clock_more a b e k h) k.tree k.ring k.blocks

-- the step is that of the history
step_is : (a b : Inside) (e : HistoryEntry) → IsKept a → Adds a b e → record { verdict = e.verdict; rows = b.system.tree; users = b.system.users } ≡ step_now a e
step_is a b e k h =
    h.stepped
    ∙ same_step (facts_in (last_renewal (entries_of a)) b.clock a.system) (facts_now a e) a.system.tree (rows_of (opening_of a) (entries_of a)) a.system.users (users_of (entries_of a)) e.request.caller e.request.op (facts_are a b e k h) k.tree k.users

pub verdict_is : (a b : Inside) (e : HistoryEntry) → IsKept a → Adds a b e → e.verdict ≡ verdict_of (opening_of a) (entries_of a) e.request
verdict_is a b e k h = ap (λ (s : Step). s.verdict) (step_is a b e k h)

tree_is : (a b : Inside) (e : HistoryEntry) → IsKept a → Adds a b e → b.system.tree ≡ rows_of (opening_of a) (e ∷ entries_of a)
tree_is a b e k h =
    ap (λ (s : Step). s.rows) (step_is a b e k h)
    ∙ (stepped_rows (facts_now a e) (rows_of (opening_of a) (entries_of a)) (users_of (entries_of a)) e.request.caller e.request.op
    ∙ ap (λ v. rows_by (facts_now a e) e.request.op e.request.caller v (rows_of (opening_of a) (entries_of a))) (sym (verdict_is a b e k h)))

users_are : (a b : Inside) (e : HistoryEntry) → IsKept a → Adds a b e → b.system.users ≡ users_of (e ∷ entries_of a)
users_are a b e k h =
    ap (λ (s : Step). s.users) (step_is a b e k h)
    ∙ (stepped_users (facts_now a e) (rows_of (opening_of a) (entries_of a)) (users_of (entries_of a)) e.request.caller e.request.op
    ∙ ap (λ v. users_by e.request.op v (users_of (entries_of a))) (sym (verdict_is a b e k h)))

ring_is : (a b : Inside) (e : HistoryEntry) → IsKept a → Adds a b e → b.system.ring ≡ ring_of (opening_of a) (e ∷ entries_of a)
ring_is a b e k h =
    h.ring
    ∙ (ap (λ n. ring_by e.request.op e.verdict n a.system.ring) (clock_more a b e k h)
    ∙ ap (λ r. ring_by e.request.op e.verdict (clock_of (e ∷ entries_of a)) r) k.ring)

blocks_are : (a b : Inside) (e : HistoryEntry) → IsKept a → Adds a b e → b.system.blocks ≡ blocks_of (opening_of a) (e ∷ entries_of a)
blocks_are a b e k h =
    h.blocks
    ∙ (ap (λ f. blocks_by f e.request.op e.request.caller e.verdict a.system.tree a.system.blocks) (facts_are a b e k h)
    ∙ (ap (λ rows. blocks_by (facts_now a e) e.request.op e.request.caller e.verdict rows a.system.blocks) k.tree
    ∙ ap (λ s. blocks_by (facts_now a e) e.request.op e.request.caller e.verdict (rows_of (opening_of a) (entries_of a)) s) k.blocks))

ledger_is : (a b : Inside) (e : HistoryEntry) → IsKept a → Adds a b e → b.ledger.rows ≡ ledger_of (opening_of a) (e ∷ entries_of a)
ledger_is a b e k h =
    h.ledger
    ∙ (ap (λ rows. rows ++ rows_granted e.place a.system.ring b.clock e.request.caller e.request.op e.verdict) k.ledger
    ∙ (ap (λ r. ledger_of (opening_of a) (entries_of a) ++ rows_granted e.place r b.clock e.request.caller e.request.op e.verdict) k.ring
    ∙ ap (λ n. ledger_of (opening_of a) (entries_of a) ++ rows_granted e.place (ring_of (opening_of a) (entries_of a)) n e.request.caller e.request.op e.verdict) (clock_more a b e k h)))

exact_more : (a b : Inside) (e : HistoryEntry) → IsKept a → Adds a b e → IsExact (last_renewal (e ∷ entries_of a)) b.system.tree b.system.writers
exact_more a b e k h = subst (λ n. IsExact (renewed_where (renews e.request.op e.verdict) e.request.caller n (last_renewal (entries_of a))) b.system.tree b.system.writers) (clock_more a b e k h) h.exact

pub kept_more : (a b : Inside) (e : HistoryEntry) → IsKept a → Adds a b e → IsKept b
kept_more a b e k h =
    let more : entries_of b ≡ e ∷ entries_of a = entries_more a b e h in
    let place : e.place ≡ length (entries_of a) + 1 = h.place ∙ ap (λ n. n + 1) (sym (length-reverse a.history.items)) in
    let legal : IsLegal (opening_of a) (e ∷ entries_of a) = (place, verdict_is a b e k h, k.legal) in
    record {
      legal = subst (λ l. IsLegal (opening_of b) l) (sym more) (subst (λ s. IsLegal s (e ∷ entries_of a)) (sym h.opening) legal);
      clock = clock_more a b e k h ∙ ap clock_of (sym more);
      tree = tree_is a b e k h ∙ (ap (λ s. rows_of s (e ∷ entries_of a)) (sym h.opening) ∙ ap (rows_of (opening_of b)) (sym more));
      ring = ring_is a b e k h ∙ (ap (λ s. ring_of s (e ∷ entries_of a)) (sym h.opening) ∙ ap (ring_of (opening_of b)) (sym more));
      blocks = blocks_are a b e k h ∙ (ap (λ s. blocks_of s (e ∷ entries_of a)) (sym h.opening) ∙ ap (blocks_of (opening_of b)) (sym more));
      users = users_are a b e k h ∙ ap users_of (sym more);
      ledger = ledger_is a b e k h ∙ (ap (λ s. ledger_of s (e ∷ entries_of a)) (sym h.opening) ∙ ap (ledger_of (opening_of b)) (sym more));
      exact = subst (λ l. IsExact (last_renewal l) b.system.tree b.system.writers) (sym more) (exact_more a b e k h);
      limits = h.limits ∙ (k.limits ∙ ap (λ (o : Opening). limits_of o.config) (sym h.opening));
      latest = h.latest;
    }

pub kept_undone : (a b : Inside) → IsKept a → opening_of b ≡ opening_of a → b.history.items ≡ a.history.items → b.clock ≡ a.clock → b.ledger.rows ≡ a.ledger.rows → IsUndone a.system b.system → IsKept b
kept_undone a b k opening history clock ledger undone =
    let same : entries_of b ≡ entries_of a = ap reverse history in
    let leases = undone.writers.leases in
    record {
      legal = subst (λ l. IsLegal (opening_of b) l) (sym same) (subst (λ s. IsLegal s (entries_of a)) (sym opening) k.legal);
      clock = clock ∙ (k.clock ∙ ap clock_of (sym same));
      tree = undone.tree ∙ (k.tree ∙ (ap (λ s. rows_of s (entries_of a)) (sym opening) ∙ ap (rows_of (opening_of b)) (sym same)));
      ring = undone.ring ∙ (k.ring ∙ (ap (λ s. ring_of s (entries_of a)) (sym opening) ∙ ap (ring_of (opening_of b)) (sym same)));
      blocks = undone.blocks ∙ (k.blocks ∙ (ap (λ s. blocks_of s (entries_of a)) (sym opening) ∙ ap (blocks_of (opening_of b)) (sym same)));
      users = undone.users ∙ (k.users ∙ ap users_of (sym same));
      ledger = ledger ∙ (k.ledger ∙ (ap (λ s. ledger_of s (entries_of a)) (sym opening) ∙ ap (ledger_of (opening_of b)) (sym same)));
      exact = subst (λ l. IsExact (last_renewal l) b.system.tree b.system.writers) (sym same)
          (subst (λ t. IsExact (last_renewal (entries_of a)) t b.system.writers) (sym undone.tree)
          (record {
            files = λ client. undone.writers.files client ∙ k.exact.files client;
            leased = λ client.
                ap (λ (l : Leases). renewal_moment_of l.renewals client) leases
                ∙ (k.exact.leased client ∙ ap (λ n. cond (nat_lt 0 n) (last_renewal (entries_of a) client) None) (sym (undone.writers.files client)));
          }));
      limits = ap (λ (l : Leases). l.limits) leases ∙ (k.limits ∙ ap (λ (o : Opening). limits_of o.config) (sym opening));
      latest = subst (λ (l : Leases). latest_moment l.renewals ≤ b.clock) (sym leases) (subst (λ n. latest_moment a.system.writers.leases.renewals ≤ n) (sym clock) k.latest);
    }

pub steps_is : (a b : Inside) (e : HistoryEntry) (n pass index : ℕ) (r : Request) (v : Verdict) (told : Answer) → IsKept a → Adds a b e
    → e ≡ record { place = n; pass = pass; index = index; request = r; verdict = v } → told ≡ record { place = n; request = r; verdict = v } → Steps (core_of a) pass index r told (core_of b)
steps_is a b e n pass index r v told k h is to =
    let place : n ≡ length (entries_of a) + 1 = sym (ap (λ (x : HistoryEntry). x.place) is) ∙ (h.place ∙ ap (λ m. m + 1) (sym (length-reverse a.history.items))) in
    let verdict : v ≡ verdict_of (opening_of a) (entries_of a) r =
    sym (ap (λ (x : HistoryEntry). x.verdict) is) ∙ (verdict_is a b e k h ∙ ap (λ (x : HistoryEntry). verdict_of (opening_of a) (entries_of a) x.request) is) in
    let made : e ≡ entry_for (core_of a) pass index r =
    is ∙ (ap (λ m. record { place = m; pass = pass; index = index; request = r; verdict = v }) place ∙ ap (λ w. record { place = length (entries_of a) + 1; pass = pass; index = index; request = r; verdict = w }) verdict) in
    let entries : entries_of b ≡ entry_for (core_of a) pass index r ∷ entries_of a = entries_more a b e h ∙ ap (λ x. x ∷ entries_of a) made in
    record {
      new_is = ap (λ (s : Opening). record { opening = s; entries = entries_of b }) h.opening ∙ ap (λ l. record { opening = opening_of a; entries = l }) entries;
      answer_is = to ∙ (ap (λ m. record { place = m; request = r; verdict = v }) place ∙ ap (λ w. record { place = length (entries_of a) + 1; request = r; verdict = w }) verdict);
    }
