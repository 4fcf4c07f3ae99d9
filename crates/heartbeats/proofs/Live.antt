-- The live nodes by the entries: the keys of those that a test keeps, which ascend.
use Rattle.std.proofs.Common.{◌≡◌, ℕ, ◌==◌, ◌-◌, Bool, true, false, cond, ◌||◌, nat_le, List, [], ◌∷◌, filter, Some, refl, sym, ap, ◌∙◌, true≢false, arith}
use Rattle.std.proofs.lemmas.Bool.Decides.{nat_tests}
use Rattle.std.proofs.lemmas.Map.Keys.{sorted_head, sorted_tail, IsStrictlyIncreasing-from_sorted}
use Rattle.std.proofs.lemmas.Map.Made.{is_some-lookup}
use Rattle.std.specs.BTreeMap.{insert_entry}
use Rattle.std.specs.Cmp.{unsigned_ties}
use Rattle.std.specs.List.Sorted.{IsStrictlySortedBy, IsStrictlyIncreasing}
use Rattle.std.specs.Map.{keys_of}
use Rattle.std.specs.Option.{IsSome}
use Rattle.std.specs.Ordering.{is_eq, nat_cmp, match_ordering}
use Rattle.std.specs.declared.cmp.Ordering.{Ordering}
use Rattle.std.specs.declared.cmp.Ordering.TheVariants.{Less, Equal, Greater}
use Rattle.block_records.specs.Numbers.{is_number, entry_at}
use Rattle.block_records.proofs.Ascending.{above_lower, lacks_lower, kept_ascending}
use Rattle.block_records.proofs.Entries.{found_keys}
use Rattle.block_records.proofs.Standing.{behind}
use Rattle.heartbeats.specs.Live.{Heartbeats, with_heartbeat, is_recent, is_live, live_nodes}

-- the keys of those entries that pass a test ascend
pub kept_increasing : (keep : ℕ × ℕ → Bool) (entries : List (ℕ × ℕ)) → IsStrictlySortedBy nat_cmp (keys_of entries) → IsStrictlyIncreasing (keys_of (filter keep entries))
kept_increasing keep entries up = IsStrictlyIncreasing-from_sorted (keys_of (filter keep entries)) (kept_ascending keep entries up)

-- ---- live nodes

abbrev pub is_recent_entry : ℕ → ℕ → ℕ × ℕ → Bool
is_recent_entry dead now entry = is_recent dead now (Some entry.1)

pub live_recent : (nodes : Heartbeats) (now : ℕ) → IsStrictlySortedBy nat_cmp (keys_of nodes.last) → keys_of (filter (is_recent_entry nodes.dead now) nodes.last) ≡ live_nodes nodes now
live_recent nodes now up = found_keys (is_recent_entry nodes.dead now) (is_live nodes now) nodes.last up (λ entry is. ap (is_recent nodes.dead now) (sym is))

-- ---- live nodes behind a heartbeat of a node that sent one before

-- the heartbeat adds no key
keys_behind : (node moment : ℕ) (entries : List (ℕ × ℕ)) → IsStrictlySortedBy nat_cmp (keys_of entries) → IsSome (entry_at node entries) → keys_of (insert_entry nat_cmp entries node moment) ≡ keys_of entries
keys_behind node moment [] up known = absurd (true≢false (sym known))
keys_behind node moment (e ∷ es) up known = by (nat_cmp node e.0) refl known (keys_behind node moment es (sorted_tail nat_cmp e.0 (keys_of es) up))
  where
    by : (o : Ordering) → nat_cmp node e.0 ≡ o → IsSome (cond (is_eq o) (Some e.1) (entry_at node es)) → (IsSome (entry_at node es) → keys_of (insert_entry nat_cmp es node moment) ≡ keys_of es)
        → keys_of (match_ordering o ((node, moment) ∷ e ∷ es) ((e.0, moment) ∷ es) (e ∷ insert_entry nat_cmp es node moment)) ≡ keys_of (e ∷ es)
    by Less less known rest =
        absurd (true≢false (sym known ∙ (is_some-lookup (is_number node) es ∙ lacks_lower node (keys_of es) (above_lower node e.0 (keys_of es) less (sorted_head nat_cmp e.0 (keys_of es) up)))))
    by Equal is known rest = refl
    by Greater is known rest = ap (λ l. e.0 ∷ l) (rest known)

now_is_recent : (dead now : ℕ) → nat_le (now - now) dead ≡ true
now_is_recent dead now = grind (arith, nat_tests)

abbrev pub is_own_or_recent : ℕ → ℕ → ℕ → ℕ × ℕ → Bool
is_own_or_recent node dead now entry = (entry.0 == node) || is_recent dead now (Some entry.1)

pub live_behind : (nodes : Heartbeats) (node now : ℕ) → IsStrictlySortedBy nat_cmp (keys_of nodes.last) → IsSome (entry_at node nodes.last)
    → keys_of (filter (is_own_or_recent node nodes.dead now) nodes.last) ≡ live_nodes (with_heartbeat nodes node now) now
live_behind nodes node now up known =
    found_keys (is_own_or_recent node nodes.dead now) (is_live (with_heartbeat nodes node now) now) nodes.last up each
    ∙ ap (filter (is_live (with_heartbeat nodes node now) now)) (sym (keys_behind node now nodes.last up known))
  where
    by : (moment : ℕ) (b : Bool) → (b || is_recent nodes.dead now (Some moment)) ≡ is_recent nodes.dead now (cond b (Some now) (Some moment))
    by moment true = sym (now_is_recent nodes.dead now)
    by moment false = refl

    each : (entry : ℕ × ℕ) → entry_at entry.0 nodes.last ≡ Some entry.1 → is_own_or_recent node nodes.dead now entry ≡ is_live (with_heartbeat nodes node now) now entry.0
    each entry is =
        ap (λ b. b || is_recent nodes.dead now (Some entry.1)) (unsigned_ties entry.0 node)
        ∙ by entry.1 (is_number entry.0 node)
        ∙ sym (ap (is_recent nodes.dead now) (behind node now entry.0 nodes.last ∙ ap (cond (is_number entry.0 node) (Some now)) is))
