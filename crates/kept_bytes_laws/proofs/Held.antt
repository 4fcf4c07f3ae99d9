-- Once a DataNode serves the end of a write, a recovery or a copy, it has a finalized replica, as it tells.
use Rattle.std.proofs.Common.{◌≡◌, ℕ, ◌≤◌, ◌==◌, Bool, true, false, ◌||◌, not, nat_lt, List, take, length, Option, Some, None, unwrap_or, refl, sym, ap, ◌∙◌, subst, cond, arith}
use Rattle.std.proofs.lemmas.Bool.{ltb-false, eqb-true}
use Rattle.std.proofs.lemmas.List.{length-take-le}
use Rattle.std.specs.BTreeMap.{insert_entry}
use Rattle.std.specs.Ordering.{nat_cmp}
use Rattle.block_records.specs.Numbers.{entry_at}
use Rattle.block_recovery.proofs.Lookups.{lookup_inserted}
use Rattle.block_recovery.proofs.Tables.{itself}
use Rattle.datanode.specs.Kept.{IsBelow}
use Rattle.datanode.proofs.Steps.{never, passed, not_so}
use Rattle.node_calls.specs.declared.call.ReplicaState.TheVariants.{Finalized}
use Rattle.node_calls.specs.declared.call.TokenCall.TheVariants as call
use Rattle.node_calls.specs.declared.refusal.ReplicaRefusal.TheVariants.{NoReplica, StampDiffers, OutOfRange, NotWritable, OffsetGap}
use Rattle.replica_steps.specs.ReplicaState.{is_writing}
use Rattle.replica_steps.specs.ReplicaStep.{Replicas, nothing, held_at, refused_or_later, replica_refusal, newly_held, with_replica_finalized, with_replica_recovered, with_held_changed, held_changed_by, replicas_after}
use Rattle.replica_steps.specs.declared.held.Held.{Held}
use Rattle.replica_steps.specs.declared.replica.Replica.{Replica}
use Rattle.fencing_laws.proofs.Behind.{set_there}

-- a finalized replica of this stamp, with so many bytes
pub record IsFinal (stamp count : ℕ) (held : Held) : Type 0 where
  pub replica : Replica
  pub there : held.replica ≡ Some replica
  pub stamped : replica.stamp ≡ stamp
  pub done : replica.state ≡ Finalized
  pub long : length replica.bytes ≡ count

-- what is changed of a block that has a replica
changed_here : (block : ℕ) (change : Held → Held) (blocks : Replicas) (replica : Replica) → (held_at block blocks).replica ≡ Some replica → held_at block (with_held_changed change block blocks) ≡ change (held_at block blocks)
changed_here block change blocks replica there = by (entry_at block blocks) refl there
  where
    by : (found : Option Held) → entry_at block blocks ≡ found → (unwrap_or found nothing).replica ≡ Some replica → held_at block (held_changed_by change block found blocks) ≡ change (unwrap_or found nothing)
    by None e h = cc
    by (Some old) e h =
        ap (λ (found : Option Held). unwrap_or found nothing) (set_there block block old (change old) blocks e)
        ∙ ap (λ b. unwrap_or (cond b (Some (change old)) (entry_at block blocks)) nothing) (itself block)

put_here : (block : ℕ) (new : Held) (blocks : Replicas) → held_at block (insert_entry nat_cmp blocks block new) ≡ new
put_here block new blocks =
    ap (λ (found : Option Held). unwrap_or found nothing) (lookup_inserted block block new blocks)
    ∙ ap (λ b. unwrap_or (cond b (Some new) (entry_at block blocks)) nothing) (itself block)

-- ---- a recovery

-- the replica is cut to what it has
updates : (limit stamp promised count : ℕ) (found : Option Replica) → replica_refusal limit (call.UpdateReplica count) stamp (record { replica = found; promised = promised }) ≡ None
    → (replica : Replica) × (found ≡ Some replica) × (count ≤ length replica.bytes)
updates limit stamp promised count None e = absurd (never NoReplica e)
updates limit stamp promised count (Some replica) e = (
  replica,
  refl,
  ltb-false (length replica.bytes) count
      (passed (nat_lt (length replica.bytes) count) OutOfRange None
      (passed (replica.stamp == stamp) NotWritable (refused_or_later (nat_lt (length replica.bytes) count) OutOfRange None)
      (passed (not (stamp == promised)) (StampDiffers promised) (refused_or_later (replica.stamp == stamp) NotWritable (refused_or_later (nat_lt (length replica.bytes) count) OutOfRange None)) e).1).1).0,
)

pub update_leaves : (limit stamp block count : ℕ) (blocks : Replicas) → replica_refusal limit (call.UpdateReplica count) stamp (held_at block blocks) ≡ None
    → IsFinal stamp count (held_at block (replicas_after (call.UpdateReplica count) stamp block blocks))
update_leaves limit stamp block count blocks e =
    let own = updates limit stamp (held_at block blocks).promised count (held_at block blocks).replica e in
    subst (IsFinal stamp count) (sym (changed_here block (with_replica_recovered stamp count) blocks own.0 own.1)) (record {
      replica = record { stamp = stamp; state = Finalized; bytes = take count own.0.bytes };
      there = ap (λ (found : Option Replica). (with_replica_recovered stamp count (record { replica = found; promised = (held_at block blocks).promised })).replica) own.1;
      stamped = refl;
      done = refl;
      long = length-take-le count own.0.bytes own.2;
    })

-- ---- the end of a write

record Writes (stamp count : ℕ) (found : Option Replica) : Type 0 where
  replica : Replica
  there : found ≡ Some replica
  stamped : replica.stamp ≡ stamp
  long : length replica.bytes ≡ count

writes : (limit stamp promised count : ℕ) (next : List ℕ) (found : Option Replica) → replica_refusal limit (call.Finalize count next) stamp (record { replica = found; promised = promised }) ≡ None → IsBelow promised found
    → Writes stamp count found
writes limit stamp promised count next None e below = absurd (never NoReplica e)
writes limit stamp promised count next (Some replica) e below =
    let later = refused_or_later (not (count == length replica.bytes)) (OffsetGap (length replica.bytes)) None in
    let first = passed (not (stamp == promised)) (StampDiffers promised) (refused_or_later (not (is_writing replica.state) || nat_lt replica.stamp promised) NotWritable later) e in
    let second = passed (not (is_writing replica.state) || nat_lt replica.stamp promised) NotWritable later first.1 in
    let third = passed (not (count == length replica.bytes)) (OffsetGap (length replica.bytes)) None second.1 in
    let at : stamp ≡ promised = eqb-true stamp promised (not_so (stamp == promised) first.0) in
    let low : promised ≤ replica.stamp = ltb-false replica.stamp promised (right (not (is_writing replica.state)) (nat_lt replica.stamp promised) second.0) in
    let high : replica.stamp ≤ promised = below in
    record { replica = replica; there = refl; stamped = omega (arith, at, low, high); long = sym (eqb-true count (length replica.bytes) (not_so (count == length replica.bytes) third.0)) }
  where
    right : (a b : Bool) → (a || b) ≡ false → b ≡ false
    right true b h = cc
    right false b h = h

pub write_leaves : (limit stamp block count : ℕ) (next : List ℕ) (blocks : Replicas) → replica_refusal limit (call.Finalize count next) stamp (held_at block blocks) ≡ None
    → IsBelow (held_at block blocks).promised (held_at block blocks).replica → IsFinal stamp count (held_at block (replicas_after (call.Finalize count next) stamp block blocks))
write_leaves limit stamp block count next blocks e below =
    let own = writes limit stamp (held_at block blocks).promised count next (held_at block blocks).replica e below in
    subst (IsFinal stamp count) (sym (changed_here block with_replica_finalized blocks own.replica own.there)) (record {
      replica = record own.replica { state = Finalized };
      there = ap (λ (found : Option Replica). (with_replica_finalized (record { replica = found; promised = (held_at block blocks).promised })).replica) own.there;
      stamped = own.stamped;
      done = refl;
      long = own.long;
    })

-- ---- a copy

pub copy_leaves : (stamp block : ℕ) (bytes : List ℕ) (blocks : Replicas) → IsFinal stamp (length bytes) (held_at block (replicas_after (call.TakeCopy bytes) stamp block blocks))
copy_leaves stamp block bytes blocks =
    subst (IsFinal stamp (length bytes)) (sym (put_here block (newly_held stamp Finalized bytes) blocks))
    (record { replica = record { stamp = stamp; state = Finalized; bytes = bytes }; there = refl; stamped = refl; done = refl; long = refl })
