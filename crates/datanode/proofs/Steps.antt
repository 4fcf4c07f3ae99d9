-- What one call leaves of one block.
use Rattle.std.proofs.Common.{◌≡◌, ℕ, ◌≤◌, ◌==◌, Bool, true, false, not, nat_le, nat_lt, List, [], ◌∷◌, length, Option, Some, None, unwrap_or, refl, sym, cond, subst, inl, inr, arith}
use Rattle.std.proofs.lemmas.Bool.{leb-false, ltb-false, eqb-true}
use Rattle.std.proofs.lemmas.List.{append-nil}
use Rattle.std.specs.BTreeMap.{insert_entry}
use Rattle.std.specs.Map.{set_value}
use Rattle.std.specs.Ordering.{is_eq, nat_cmp, match_ordering}
use Rattle.std.specs.declared.cmp.Ordering.{Ordering}
use Rattle.std.specs.declared.cmp.Ordering.TheVariants.{Less, Equal, Greater}
use Rattle.block_records.specs.Numbers.{is_number, entry_at}
use Rattle.block_records.proofs.Numbers.{number_is}
use Rattle.node_calls.specs.declared.call.ReplicaState.{ReplicaState}
use Rattle.node_calls.specs.declared.call.ReplicaState.TheVariants.{Writing, Finalized}
use Rattle.node_calls.specs.declared.call.TokenCall.{TokenCall}
use Rattle.node_calls.specs.declared.call.TokenCall.TheVariants as call
use Rattle.node_calls.specs.declared.refusal.ReplicaRefusal.{ReplicaRefusal}
use Rattle.node_calls.specs.declared.refusal.ReplicaRefusal.TheVariants.{NoReplica, StampDiffers, OutOfRange, NotWritable, ReplicaExists}
use Rattle.replica_steps.specs.ReplicaStep.{Replicas, nothing, held_at, refused_or_later, replica_refusal, newly_held, with_bytes_appended, with_replica_finalized, with_promise, with_replica_recovered, with_no_replica, with_held_changed, held_changed_by, replicas_after}
use Rattle.replica_steps.specs.declared.held.Held.{Held}
use Rattle.replica_steps.specs.declared.replica.Replica.{Replica}
use Rattle.datanode.specs.Kept.{IsBelow}
use Rattle.datanode.specs.Laws.{KeepsBytes, AreKept, given_length}

-- ---- what is left of one block follows from what was held of it

pub record Follows (recovered : Option ℕ) (old new : Held) : Type 0 where
  pub promise : old.promised ≤ new.promised
  pub below : IsBelow old.promised old.replica → IsBelow new.promised new.replica
  pub kept : IsBelow old.promised old.replica → AreKept recovered old.replica new.replica

same_bytes : (recovered : Option ℕ) (bytes : List ℕ) → KeepsBytes recovered bytes bytes
same_bytes None bytes = ([], sym (append-nil bytes))
same_bytes (Some count) bytes = inl refl

same_replica : (recovered : Option ℕ) (replica : Option Replica) → AreKept recovered replica replica
same_replica recovered None = tt
same_replica recovered (Some replica) = (omega arith, same_bytes recovered replica.bytes)

pub same : (recovered : Option ℕ) (held : Held) → Follows recovered held held
same recovered held = record { promise = omega arith; below = λ h. h; kept = λ h. same_replica recovered held.replica }

-- ---- refusals that don't apply

pub never : (refusal : ReplicaRefusal) → Some refusal ≡ None → ⊥
never refusal e = cc

pub passed : (test : Bool) (refusal : ReplicaRefusal) (later : Option ReplicaRefusal) → refused_or_later test refusal later ≡ None → (test ≡ false) × (later ≡ None)
passed true refusal later e = absurd (never refusal e)
passed false refusal later e = (refl, e)

pub not_so : (test : Bool) → not test ≡ false → test ≡ true
not_so true e = refl
not_so false e = cc

above : (stamp promised : ℕ) → nat_le stamp promised ≡ false → promised ≤ stamp
above stamp promised e = omega (arith, leb-false stamp promised e)

-- ---- one call of one block

kept_none : (recovered : Option ℕ) (old : Option Replica) → AreKept recovered old None
kept_none recovered None = tt
kept_none recovered (Some replica) = tt

begins : (limit stamp promised : ℕ) (next : List ℕ) (state : ReplicaState) (replica : Option Replica)
    → replica_refusal limit (call.Begin next) stamp (record { replica = replica; promised = promised }) ≡ None → Follows None (record { replica = replica; promised = promised }) (newly_held stamp state [])
begins limit stamp promised next state (Some replica) e = absurd (never ReplicaExists e)
begins limit stamp promised next state None e = record { promise = above stamp promised (passed (nat_le stamp promised) (StampDiffers promised) None e).0; below = λ h. omega arith; kept = λ h. tt }

takes : (limit stamp promised : ℕ) (bytes : List ℕ) (replica : Option Replica)
    → replica_refusal limit (call.TakeCopy bytes) stamp (record { replica = replica; promised = promised }) ≡ None → Follows None (record { replica = replica; promised = promised }) (newly_held stamp Finalized bytes)
takes limit stamp promised bytes (Some replica) e = absurd (never ReplicaExists e)
takes limit stamp promised bytes None e = record { promise = ltb-false stamp promised (passed (nat_lt stamp promised) (StampDiffers promised) (refused_or_later (nat_lt limit (length bytes)) OutOfRange None) e).0; below = λ h. omega arith; kept = λ h. tt }

appends : (bytes : List ℕ) (promised : ℕ) (replica : Option Replica) → Follows None (record { replica = replica; promised = promised }) (with_bytes_appended bytes (record { replica = replica; promised = promised }))
appends bytes promised None = same None (record { replica = None; promised = promised })
appends bytes promised (Some replica) = record { promise = omega arith; below = λ h. h; kept = λ h. (omega arith, (bytes, refl)) }

finalizes : (promised : ℕ) (replica : Option Replica) → Follows None (record { replica = replica; promised = promised }) (with_replica_finalized (record { replica = replica; promised = promised }))
finalizes promised None = same None (record { replica = None; promised = promised })
finalizes promised (Some replica) = record { promise = omega arith; below = λ h. h; kept = λ h. (omega arith, same_bytes None replica.bytes) }

lower : (stamp promised : ℕ) (replica : Option Replica) → promised ≤ stamp → IsBelow promised replica → IsBelow stamp replica
lower stamp promised None up h = tt
lower stamp promised (Some replica) up h =
    let g : replica.stamp ≤ promised = h in omega (arith, up, g)

promises : (limit stamp promised : ℕ) (replica : Option Replica)
    → replica_refusal limit call.InitRecovery stamp (record { replica = replica; promised = promised }) ≡ None → Follows None (record { replica = replica; promised = promised }) (with_promise stamp (record { replica = replica; promised = promised }))
promises limit stamp promised None e = absurd (never NoReplica e)
promises limit stamp promised (Some replica) e =
    let up : promised ≤ stamp = above stamp promised (passed (nat_le stamp promised) (StampDiffers promised) None e).0 in
    record { promise = up; below = lower stamp promised (Some replica) up; kept = λ h. same_replica None (Some replica) }

updates : (limit stamp promised count : ℕ) (replica : Option Replica)
    → replica_refusal limit (call.UpdateReplica count) stamp (record { replica = replica; promised = promised }) ≡ None
    → Follows (Some count) (record { replica = replica; promised = promised }) (with_replica_recovered stamp count (record { replica = replica; promised = promised }))
updates limit stamp promised count None e = absurd (never NoReplica e)
updates limit stamp promised count (Some replica) e =
    let at : stamp ≡ promised = eqb-true stamp promised (not_so (stamp == promised) (passed (not (stamp == promised)) (StampDiffers promised)
    (refused_or_later (replica.stamp == stamp) NotWritable (refused_or_later (nat_lt (length replica.bytes) count) OutOfRange None)) e).0) in
    record { promise = omega arith; below = λ h. omega (arith, at); kept = λ (h : replica.stamp ≤ promised). (omega (arith, at, h), inr refl) }

pub removes : (promised : ℕ) (replica : Option Replica) → Follows None (record { replica = replica; promised = promised }) (with_no_replica (record { replica = replica; promised = promised }))
removes promised replica = record { promise = omega arith; below = λ h. tt; kept = λ h. kept_none None replica }

-- ---- all blocks

one_held : (held other : Held) → Some held ≡ Some other → held ≡ other
one_held held other e = cc

none_there : (held : Held) → None ≡ Some held → ⊥
none_there held e = cc

module _ (recovered : Option ℕ) where
  put : (q block : ℕ) (new : Held) (blocks : Replicas) → Follows recovered (held_at block blocks) new → Follows recovered (held_at q blocks) (held_at q (insert_entry nat_cmp blocks block new))
  put q block new [] follows = by (is_number q block)
    where
      by : (b : Bool) → Follows recovered nothing (unwrap_or (cond b (Some new) None) nothing)
      by true = follows
      by false = same recovered nothing
  put q block new (entry ∷ blocks) follows = by (nat_cmp block entry.0) refl (put q block new blocks) follows
    where
      by : (o : Ordering) → nat_cmp block entry.0 ≡ o
          → (Follows recovered (held_at block blocks) new → Follows recovered (held_at q blocks) (held_at q (insert_entry nat_cmp blocks block new)))
          → Follows recovered (unwrap_or (cond (is_eq o) (Some entry.1) (entry_at block blocks)) nothing) new
          → Follows recovered (held_at q (entry ∷ blocks)) (held_at q (match_ordering o ((block, new) ∷ (entry ∷ blocks)) ((entry.0, new) ∷ blocks) (entry ∷ insert_entry nat_cmp blocks block new)))
      by Less is rest h = first (is_number q block) refl
        where
          first : (b : Bool) → is_number q block ≡ b → Follows recovered (held_at q (entry ∷ blocks)) (unwrap_or (cond b (Some new) (entry_at q (entry ∷ blocks))) nothing)
          first true at = subst (λ n. Follows recovered (held_at n (entry ∷ blocks)) new) (sym (number_is q block at)) follows
          first false at = same recovered (held_at q (entry ∷ blocks))
      by Equal is rest h = first (is_number q entry.0)
        where
          first : (b : Bool) → Follows recovered (unwrap_or (cond b (Some entry.1) (entry_at q blocks)) nothing) (unwrap_or (cond b (Some new) (entry_at q blocks)) nothing)
          first true = h
          first false = same recovered (held_at q blocks)
      by Greater is rest h = first (is_number q entry.0)
        where
          first : (b : Bool) → Follows recovered (unwrap_or (cond b (Some entry.1) (entry_at q blocks)) nothing) (unwrap_or (cond b (Some entry.1) (entry_at q (insert_entry nat_cmp blocks block new))) nothing)
          first true = same recovered entry.1
          first false = rest h

  set : (q block : ℕ) (old new : Held) (blocks : Replicas) → entry_at block blocks ≡ Some old → Follows recovered old new → Follows recovered (held_at q blocks) (held_at q (set_value (is_number block) blocks new))
  set q block old new [] e follows = absurd (none_there old e)
  set q block old new (entry ∷ blocks) e follows = by (is_number block entry.0) e (set q block old new blocks)
    where
      by : (b : Bool) → cond b (Some entry.1) (entry_at block blocks) ≡ Some old
          → (entry_at block blocks ≡ Some old → Follows recovered old new → Follows recovered (held_at q blocks) (held_at q (set_value (is_number block) blocks new)))
          → Follows recovered (held_at q (entry ∷ blocks)) (held_at q (cond b ((entry.0, new) ∷ blocks) (entry ∷ set_value (is_number block) blocks new)))
      by true own rest = first (is_number q entry.0)
        where
          own_is : old ≡ entry.1
          own_is = sym (one_held entry.1 old own)

          first : (b : Bool) → Follows recovered (unwrap_or (cond b (Some entry.1) (entry_at q blocks)) nothing) (unwrap_or (cond b (Some new) (entry_at q blocks)) nothing)
          first true = subst (λ held. Follows recovered held new) own_is follows
          first false = same recovered (held_at q blocks)
      by false own rest = first (is_number q entry.0)
        where
          first : (b : Bool) → Follows recovered (unwrap_or (cond b (Some entry.1) (entry_at q blocks)) nothing) (unwrap_or (cond b (Some entry.1) (entry_at q (set_value (is_number block) blocks new))) nothing)
          first true = same recovered entry.1
          first false = rest own follows

  pub change : (q block : ℕ) (f : Held → Held) (blocks : Replicas) → Follows recovered (held_at block blocks) (f (held_at block blocks)) → Follows recovered (held_at q blocks) (held_at q (with_held_changed f block blocks))
  change q block f blocks follows = by (entry_at block blocks) refl follows
    where
      by : (found : Option Held) → entry_at block blocks ≡ found → Follows recovered (unwrap_or found nothing) (f (unwrap_or found nothing)) → Follows recovered (held_at q blocks) (held_at q (held_changed_by f block found blocks))
      by None e h = same recovered (held_at q blocks)
      by (Some old) e h = set q block old (f old) blocks e h

-- a call that isn't refused
pub called : (limit stamp block q : ℕ) (asked : TokenCall) (blocks : Replicas) → replica_refusal limit asked stamp (held_at block blocks) ≡ None
    → Follows (given_length asked) (held_at q blocks) (held_at q (replicas_after asked stamp block blocks))
called limit stamp block q (call.Begin next) blocks e = put None q block (newly_held stamp Writing []) blocks (begins limit stamp (held_at block blocks).promised next Writing (held_at block blocks).replica e)
called limit stamp block q (call.Packet offset bytes next) blocks e = change None q block (with_bytes_appended bytes) blocks (appends bytes (held_at block blocks).promised (held_at block blocks).replica)
called limit stamp block q (call.Finalize count next) blocks e = change None q block with_replica_finalized blocks (finalizes (held_at block blocks).promised (held_at block blocks).replica)
called limit stamp block q (call.Read offset count) blocks e = same None (held_at q blocks)
called limit stamp block q call.InitRecovery blocks e = change None q block (with_promise stamp) blocks (promises limit stamp (held_at block blocks).promised (held_at block blocks).replica e)
called limit stamp block q (call.UpdateReplica count) blocks e = change (Some count) q block (with_replica_recovered stamp count) blocks (updates limit stamp (held_at block blocks).promised count (held_at block blocks).replica e)
called limit stamp block q (call.SendCopy to) blocks e = same None (held_at q blocks)
called limit stamp block q (call.TakeCopy bytes) blocks e = put None q block (newly_held stamp Finalized bytes) blocks (takes limit stamp (held_at block blocks).promised bytes (held_at block blocks).replica e)
