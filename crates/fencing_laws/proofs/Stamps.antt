-- What one call leaves of the stamps that a DataNode holds of a block.
use Rattle.std.proofs.Common.{◌≡◌, ℕ, ◌≤◌, ◌==◌, Bool, true, false, not, nat_le, nat_lt, List, [], length, Option, Some, None, unwrap_or, refl, sym, ap, ◌∙◌, cond, subst, arith}
use Rattle.std.proofs.lemmas.Bool.{leb-false, ltb-false, eqb-true}
use Rattle.std.specs.Bool.{⊤}
use Rattle.std.specs.BTreeMap.{insert_entry}
use Rattle.std.specs.Ordering.{nat_cmp}
use Rattle.block_records.specs.Numbers.{is_number, entry_at}
use Rattle.block_records.proofs.Numbers.{number_is}
use Rattle.block_recovery.proofs.Lookups.{lookup_inserted}
use Rattle.block_tokens.specs.TokenTest.{token_test}
use Rattle.node_calls.specs.declared.call.NodeCall.{NodeCall}
use Rattle.node_calls.specs.declared.call.NodeCall.TheVariants.{Presenting, Invalidate, Keys}
use Rattle.node_calls.specs.declared.call.ReplicaState.TheVariants.{Writing, Finalized}
use Rattle.node_calls.specs.declared.call.TokenCall.{TokenCall}
use Rattle.node_calls.specs.declared.call.TokenCall.TheVariants as call
use Rattle.call_parts.specs.declared.presented.Presented.{Presented}
use Rattle.node_calls.specs.declared.refusal.NodeRefusal.{NodeRefusal}
use Rattle.node_calls.specs.declared.refusal.ReplicaRefusal.{ReplicaRefusal}
use Rattle.node_calls.specs.declared.refusal.ReplicaRefusal.TheVariants.{NoReplica, StampDiffers, OutOfRange, NotWritable, ReplicaExists}
use Rattle.replicas.specs.Asking.{asked_by}
use Rattle.replica_steps.specs.ReplicaStep.{Replicas, nothing, held_at, refused_or_later, replica_refusal, removal_refusal, newly_held, with_bytes_appended, with_replica_finalized, with_promise, with_replica_recovered, with_no_replica, with_held_changed, held_changed_by, replicas_after}
use Rattle.replica_steps.specs.declared.held.Held.{Held}
use Rattle.replica_steps.specs.declared.replica.Replica.{Replica}
use Rattle.datanode.specs.NodeStep.{DataNode, node_after, presented_after, presented_by, removed_by, clock_with, call_refusal, access_of}
use Rattle.datanode.proofs.Nodes.{replica_passes}
use Rattle.datanode.proofs.Steps.{never, passed, not_so}
use Rattle.fencing_laws.proofs.Behind.{set_there}

-- ---- what holds of the block that a call changes, holds of each

module _ (R : Held → Held → Type 0) (same : (held : Held) → R held held) where
  pub put : (q block : ℕ) (new : Held) (blocks : Replicas) → R (held_at block blocks) new → R (held_at q blocks) (held_at q (insert_entry nat_cmp blocks block new))
  put q block new blocks r = subst (λ found. R (held_at q blocks) (unwrap_or found nothing)) (sym (lookup_inserted block q new blocks)) (by (is_number q block) refl)
    where
      by : (b : Bool) → is_number q block ≡ b → R (held_at q blocks) (unwrap_or (cond b (Some new) (entry_at q blocks)) nothing)
      by true at = subst (λ n. R (held_at n blocks) new) (sym (number_is q block at)) r
      by false at = same (held_at q blocks)

  pub change : (q block : ℕ) (f : Held → Held) (blocks : Replicas) → R (held_at block blocks) (f (held_at block blocks)) → R (held_at q blocks) (held_at q (with_held_changed f block blocks))
  change q block f blocks r = by (entry_at block blocks) refl r
    where
      one : (old : Held) → entry_at block blocks ≡ Some old → R old (f old) → (b : Bool) → is_number block q ≡ b → R (held_at q blocks) (unwrap_or (cond b (Some (f old)) (entry_at q blocks)) nothing)
      one old e h true at =
          let own : held_at q blocks ≡ old = ap (λ n. held_at n blocks) (sym (number_is block q at)) ∙ ap (λ found. unwrap_or found nothing) e in
          subst (λ held. R held (f old)) (sym own) h
      one old e h false at = same (held_at q blocks)

      by : (found : Option Held) → entry_at block blocks ≡ found → R (unwrap_or found nothing) (f (unwrap_or found nothing)) → R (held_at q blocks) (held_at q (held_changed_by f block found blocks))
      by None e h = same (held_at q blocks)
      by (Some old) e h =
          subst (λ found. R (held_at q blocks) (unwrap_or found nothing)) (sym (set_there block q old (f old) blocks e)) (one old e h (is_number block q) refl)

-- ---- stamps that aren't below a bound

abbrev pub IsAtLeast : ℕ → Option Replica → Type 0
IsAtLeast bound None = ⊤
IsAtLeast bound (Some replica) = bound ≤ replica.stamp

-- neither what is promised nor the replica, if there is one
abbrev pub AtLeast : ℕ → Held → Type 0
AtLeast bound held = (bound ≤ held.promised) × IsAtLeast bound held.replica

above : (stamp promised : ℕ) → nat_le stamp promised ≡ false → promised ≤ stamp
above stamp promised e = omega (arith, leb-false stamp promised e)

module _ (bound : ℕ) where
  abbrev Rises : Held → Held → Type 0
  Rises old new = AtLeast bound old → AtLeast bound new

  stays : (held : Held) → Rises held held
  stays held h = h

  begins : (limit stamp promised : ℕ) (next : List ℕ) (replica : Option Replica)
      → replica_refusal limit (call.Begin next) stamp (record { replica = replica; promised = promised }) ≡ None → Rises (record { replica = replica; promised = promised }) (newly_held stamp Writing [])
  begins limit stamp promised next (Some replica) e h = absurd (never ReplicaExists e)
  begins limit stamp promised next None e h =
      let up : promised ≤ stamp = above stamp promised (passed (nat_le stamp promised) (StampDiffers promised) None e).0 in
      let low : bound ≤ promised = h.0 in
      (omega (arith, up, low), omega (arith, up, low))

  takes : (limit stamp promised : ℕ) (bytes : List ℕ) (replica : Option Replica)
      → replica_refusal limit (call.TakeCopy bytes) stamp (record { replica = replica; promised = promised }) ≡ None → Rises (record { replica = replica; promised = promised }) (newly_held stamp Finalized bytes)
  takes limit stamp promised bytes (Some replica) e h = absurd (never ReplicaExists e)
  takes limit stamp promised bytes None e h =
      let up : promised ≤ stamp = ltb-false stamp promised (passed (nat_lt stamp promised) (StampDiffers promised) (refused_or_later (nat_lt limit (length bytes)) OutOfRange None) e).0 in
      let low : bound ≤ promised = h.0 in
      (omega (arith, up, low), omega (arith, up, low))

  appends : (bytes : List ℕ) (promised : ℕ) (replica : Option Replica) → Rises (record { replica = replica; promised = promised }) (with_bytes_appended bytes (record { replica = replica; promised = promised }))
  appends bytes promised None h = h
  appends bytes promised (Some replica) h = h

  finalizes : (promised : ℕ) (replica : Option Replica) → Rises (record { replica = replica; promised = promised }) (with_replica_finalized (record { replica = replica; promised = promised }))
  finalizes promised None h = h
  finalizes promised (Some replica) h = h

  promises : (limit stamp promised : ℕ) (replica : Option Replica)
      → replica_refusal limit call.InitRecovery stamp (record { replica = replica; promised = promised }) ≡ None → Rises (record { replica = replica; promised = promised }) (with_promise stamp (record { replica = replica; promised = promised }))
  promises limit stamp promised None e h = absurd (never NoReplica e)
  promises limit stamp promised (Some replica) e h =
      let up : promised ≤ stamp = above stamp promised (passed (nat_le stamp promised) (StampDiffers promised) None e).0 in
      let low : bound ≤ promised = h.0 in
      (omega (arith, up, low), h.1)

  updates : (limit stamp promised count : ℕ) (replica : Option Replica)
      → replica_refusal limit (call.UpdateReplica count) stamp (record { replica = replica; promised = promised }) ≡ None
      → Rises (record { replica = replica; promised = promised }) (with_replica_recovered stamp count (record { replica = replica; promised = promised }))
  updates limit stamp promised count None e h = absurd (never NoReplica e)
  updates limit stamp promised count (Some replica) e h =
      let at : stamp ≡ promised = eqb-true stamp promised (not_so (stamp == promised) (passed (not (stamp == promised)) (StampDiffers promised)
      (refused_or_later (replica.stamp == stamp) NotWritable (refused_or_later (nat_lt (length replica.bytes) count) OutOfRange None)) e).0) in
      let low : bound ≤ promised = h.0 in
      (low, omega (arith, at, low))

  -- a call that isn't refused
  called : (limit stamp block q : ℕ) (asked : TokenCall) (blocks : Replicas) → replica_refusal limit asked stamp (held_at block blocks) ≡ None
      → Rises (held_at q blocks) (held_at q (replicas_after asked stamp block blocks))
  called limit stamp block q (call.Begin next) blocks e = put Rises stays q block (newly_held stamp Writing []) blocks (begins limit stamp (held_at block blocks).promised next (held_at block blocks).replica e)
  called limit stamp block q (call.Packet offset bytes next) blocks e = change Rises stays q block (with_bytes_appended bytes) blocks (appends bytes (held_at block blocks).promised (held_at block blocks).replica)
  called limit stamp block q (call.Finalize count next) blocks e = change Rises stays q block with_replica_finalized blocks (finalizes (held_at block blocks).promised (held_at block blocks).replica)
  called limit stamp block q (call.Read offset count) blocks e = stays (held_at q blocks)
  called limit stamp block q call.InitRecovery blocks e = change Rises stays q block (with_promise stamp) blocks (promises limit stamp (held_at block blocks).promised (held_at block blocks).replica e)
  called limit stamp block q (call.UpdateReplica count) blocks e = change Rises stays q block (with_replica_recovered stamp count) blocks (updates limit stamp (held_at block blocks).promised count (held_at block blocks).replica e)
  called limit stamp block q (call.SendCopy to) blocks e = stays (held_at q blocks)
  called limit stamp block q (call.TakeCopy bytes) blocks e = put Rises stays q block (newly_held stamp Finalized bytes) blocks (takes limit stamp (held_at block blocks).promised bytes (held_at block blocks).replica e)

  presented : (node : DataNode) (clock : ℕ) (own : Presented) (asked : TokenCall) (q : ℕ) → Rises (held_at q node.blocks) (held_at q (presented_after node clock own asked).blocks)
  unfolding presented_after
  presented node clock own asked q = by (call_refusal node clock own asked) refl
    where
      by : (refused : Option NodeRefusal) → call_refusal node clock own asked ≡ refused → Rises (held_at q node.blocks) (held_at q (presented_by node clock own asked refused).blocks)
      by (Some refusal) e = stays (held_at q node.blocks)
      by None e = called node.limit own.stamp own.block q asked node.blocks (replica_passes (token_test node.keys (access_of clock own asked) own.token) (replica_refusal node.limit asked own.stamp (held_at own.block node.blocks)) e)

  -- whatever a DataNode is asked
  pub rises : (node : DataNode) (now : ℕ) (asked : NodeCall) (q : ℕ) → AtLeast bound (held_at q node.blocks) → AtLeast bound (held_at q (node_after node now asked).blocks)
  unfolding node_after
  rises node now (Presenting own asked) q = presented node (clock_with node now) (asked_by node.id own asked) asked q
  rises node now (Keys update) q = stays (held_at q node.blocks)
  rises node now (Invalidate block stamp) q = by (removal_refusal stamp (held_at block node.blocks).replica)
    where
      by : (refused : Option ReplicaRefusal) → Rises (held_at q node.blocks) (held_at q (removed_by node block refused).blocks)
      by (Some refusal) = stays (held_at q node.blocks)
      by None = change Rises stays q block with_no_replica node.blocks (λ h. (h.0, tt))
