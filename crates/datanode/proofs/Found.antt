-- What a call leaves of a node's replicas where something is held of its block.
use Rattle.std.proofs.Common.{◌≡◌, ℕ, Bool, true, false, ◌||◌, List, [], ◌∷◌, Some, refl, sym, ap, ◌∙◌, cond, true≢false}
use Rattle.std.proofs.lemmas.Map.Keys.{sorted_head, sorted_tail}
use Rattle.std.proofs.lemmas.Map.Steps.{set_value_same}
use Rattle.std.specs.BTreeMap.{insert_entry}
use Rattle.std.specs.List.{list_any}
use Rattle.std.specs.List.Sorted.{IsStrictlySortedBy}
use Rattle.std.specs.Map.{keys_of, set_value}
use Rattle.std.specs.Option.{is_some}
use Rattle.std.specs.Ordering.{is_eq, nat_cmp, match_ordering}
use Rattle.std.specs.declared.cmp.Ordering.{Ordering}
use Rattle.std.specs.declared.cmp.Ordering.TheVariants.{Less, Equal, Greater}
use Rattle.block_records.specs.Numbers.{is_number, entry_at}
use Rattle.block_records.proofs.Ascending.{lacks_lower, above_lower}
use Rattle.node_calls.specs.declared.call.ReplicaState.TheVariants.{Writing, Finalized}
use Rattle.node_calls.specs.declared.call.TokenCall.{TokenCall}
use Rattle.node_calls.specs.declared.call.TokenCall.TheVariants as call
use Rattle.replica_steps.specs.ReplicaStep.{Replicas, newly_held, with_bytes_appended, with_replica_finalized, with_promise, with_replica_recovered, held_changed_by, with_held_changed, held_after, replicas_after}
use Rattle.replica_steps.specs.declared.held.Held.{Held}

-- a number is among the keys where the table has something at it
has_entry : {X : Type 0} (q : ℕ) (table : List (ℕ × X)) → list_any (is_number q) (keys_of table) ≡ is_some (entry_at q table)
has_entry q [] = refl
has_entry {X} q (entry ∷ table) = by (is_number q entry.0) (has_entry q table)
  where
    by : (b : Bool) → list_any (is_number q) (keys_of table) ≡ is_some (entry_at q table) → (b || list_any (is_number q) (keys_of table)) ≡ is_some (cond b (Some entry.1) (entry_at q table))
    by true rest = refl
    by false rest = rest

-- an entry that is there takes a new value in its place
insert_there : {X : Type 0} (k : ℕ) (w : X) (es : List (ℕ × X)) → IsStrictlySortedBy nat_cmp (keys_of es) → is_some (entry_at k es) ≡ true → insert_entry nat_cmp es k w ≡ set_value (is_number k) es w
insert_there k w [] up has = absurd (true≢false (sym has))
insert_there {X} k w (e ∷ es) up has = by (nat_cmp k e.0) refl has (insert_there k w es (sorted_tail nat_cmp e.0 (keys_of es) up))
  where
    by : (o : Ordering) → nat_cmp k e.0 ≡ o → is_some (cond (is_eq o) (Some e.1) (entry_at k es)) ≡ true
        → (is_some (entry_at k es) ≡ true → insert_entry nat_cmp es k w ≡ set_value (is_number k) es w)
        → match_ordering o ((k, w) ∷ e ∷ es) ((e.0, w) ∷ es) (e ∷ insert_entry nat_cmp es k w) ≡ cond (is_eq o) ((e.0, w) ∷ es) (e ∷ set_value (is_number k) es w)
    by Less less h rest =
        absurd (true≢false (sym h ∙ (sym (has_entry k es) ∙ lacks_lower k (keys_of es) (above_lower k e.0 (keys_of es) less (sorted_head nat_cmp e.0 (keys_of es) up)))))
    by Equal at h rest = refl
    by Greater at h rest = ap (λ l. e ∷ l) (rest h)

module _ (stamp block : ℕ) (blocks : Replicas) (held : Held) (there : entry_at block blocks ≡ Some held) (up : IsStrictlySortedBy nat_cmp (keys_of blocks)) where
  changed : (change : Held → Held) → set_value (is_number block) blocks (change held) ≡ with_held_changed change block blocks
  changed change = ap (λ found. held_changed_by change block found blocks) (sym there)

  placed : (new : Held) → set_value (is_number block) blocks new ≡ insert_entry nat_cmp blocks block new
  placed new = sym (insert_there block new blocks up (ap is_some there))

  pub after_found : (asked : TokenCall) → set_value (is_number block) blocks (held_after asked stamp held) ≡ replicas_after asked stamp block blocks
  after_found (call.Begin next) = placed (newly_held stamp Writing [])
  after_found (call.Packet offset bytes next) = changed (with_bytes_appended bytes)
  after_found (call.Finalize count next) = changed with_replica_finalized
  after_found (call.Read offset count) = set_value_same (is_number block) blocks held there
  after_found call.InitRecovery = changed (with_promise stamp)
  after_found (call.UpdateReplica count) = changed (with_replica_recovered stamp count)
  after_found (call.SendCopy to) = set_value_same (is_number block) blocks held there
  after_found (call.TakeCopy bytes) = placed (newly_held stamp Finalized bytes)
