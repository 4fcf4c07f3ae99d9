-- What one call of a DataNode leaves of the first bytes of its replica of a block.
use Rattle.std.proofs.Common.{◌≡◌, ℕ, ◌+◌, ◌≤◌, ◌==◌, Bool, true, false, not, nat_le, nat_lt, List, [], ◌++◌, take, length, Option, Some, None, Ok, unwrap_or, refl, sym, ap, ◌∙◌, subst, cond, arith}
use Rattle.std.proofs.lemmas.Bool.{ltb-false}
use Rattle.std.proofs.lemmas.List.{length-append, length-take-le, take-append-le, take-take}
use Rattle.std.specs.BTreeMap.{insert_entry}
use Rattle.std.specs.Ordering.{nat_cmp}
use Rattle.block_records.specs.Numbers.{is_number, entry_at}
use Rattle.block_records.proofs.Numbers.{number_is}
use Rattle.block_recovery.proofs.Lookups.{lookup_inserted}
use Rattle.block_tokens.specs.TokenTest.{token_test}
use Rattle.node_ids.specs.NodeId.{node_principal}
use Rattle.node_calls.specs.declared.call.NodeCall.{NodeCall}
use Rattle.node_calls.specs.declared.call.NodeCall.TheVariants.{Presenting, Invalidate, Keys}
use Rattle.node_calls.specs.declared.call.ReplicaState.TheVariants.{Writing, Finalized}
use Rattle.node_calls.specs.declared.call.TokenCall.{TokenCall}
use Rattle.node_calls.specs.declared.call.TokenCall.TheVariants as call
use Rattle.call_parts.specs.declared.presented.Presented.{Presented}
use Rattle.node_calls.specs.declared.refusal.NodeRefusal.{NodeRefusal}
use Rattle.node_calls.specs.declared.refusal.ReplicaRefusal.{ReplicaRefusal}
use Rattle.node_calls.specs.declared.refusal.ReplicaRefusal.TheVariants.{StampDiffers, OutOfRange, NotWritable, ReplicaExists}
use Rattle.node_calls.specs.declared.reply.NodeReply.{NodeReply}
use Rattle.node_calls.specs.declared.reply.NodeReply.TheVariants as reply
use Rattle.replicas.specs.Asking.{asked_by, sends_copy}
use Rattle.replicas.specs.Sending.{call_reply}
use Rattle.replica_steps.specs.ReplicaStep.{Replicas, nothing, held_at, refused_new_replica, refused_or_later, replica_refusal, removal_refusal, newly_held, with_bytes_appended, with_replica_finalized, with_promise, with_replica_recovered, with_no_replica, with_held_changed, held_changed_by, replicas_after}
use Rattle.replica_steps.specs.declared.held.Held.{Held}
use Rattle.replica_steps.specs.declared.replica.Replica.{Replica}
use Rattle.datanode.specs.NodeStep.{DataNode, node_after, node_answer, presented_after, presented_answer, presented_by, told_by, removed_by, removal_told, clock_with, call_refusal, access_of}
use Rattle.datanode.proofs.Nodes.{replica_passes}
use Rattle.datanode.proofs.Steps.{never, passed}
use Rattle.fencing_laws.proofs.Behind.{set_there}

-- a call that isn't refused is answered
pub served_answer : (node : DataNode) (now : ℕ) (presented : Presented) (asked : TokenCall) → call_refusal node (clock_with node now) (asked_by node.id presented asked) asked ≡ None
    → (node_answer node now (Presenting presented asked)).result ≡ Ok (call_reply asked (held_at (asked_by node.id presented asked).block node.blocks))
unfolding node_answer presented_answer
served_answer node now presented asked e = ap (λ (refused : Option NodeRefusal). (told_by node (asked_by node.id presented asked) asked refused).result) e

same_block : (b : Bool) (given : Presented) (principal : List ℕ) → (cond b (record given { caller = principal }) given).block ≡ given.block
same_block true given principal = refl
same_block false given principal = refl

pub asked_block : (id : ℕ) (presented : Presented) (asked : TokenCall) → (asked_by id presented asked).block ≡ presented.block
asked_block id presented asked = same_block (sends_copy asked) presented (node_principal id)

module _ (q bytes : ℕ) (front : List ℕ) where
  -- it has a replica of so many bytes at least, which begin with these
  pub record Begins (held : Held) : Type 0 where
    pub replica : Replica
    pub there : held.replica ≡ Some replica
    pub enough : bytes ≤ length replica.bytes
    pub first : take bytes replica.bytes ≡ front

  -- ---- what holds of the block that a call changes

  put_at : (block : ℕ) (new : Held) (blocks : Replicas) → (block ≡ q → Begins (held_at block blocks) → Begins new) → Begins (held_at q blocks) → Begins (held_at q (insert_entry nat_cmp blocks block new))
  put_at block new blocks h begins = subst (λ (found : Option Held). Begins (unwrap_or found nothing)) (sym (lookup_inserted block q new blocks)) (by (is_number q block) refl)
    where
      by : (b : Bool) → is_number q block ≡ b → Begins (unwrap_or (cond b (Some new) (entry_at q blocks)) nothing)
      by true at = let same : block ≡ q = sym (number_is q block at) in h same (subst (λ n. Begins (held_at n blocks)) (sym same) begins)
      by false at = begins

  change_at : (block : ℕ) (f : Held → Held) (blocks : Replicas) → (block ≡ q → Begins (held_at block blocks) → Begins (f (held_at block blocks))) → Begins (held_at q blocks) → Begins (held_at q (with_held_changed f block blocks))
  change_at block f blocks h begins = by (entry_at block blocks) refl
    where
      one : (old : Held) → entry_at block blocks ≡ Some old → (b : Bool) → is_number block q ≡ b → Begins (unwrap_or (cond b (Some (f old)) (entry_at q blocks)) nothing)
      one old e true at =
          let same : block ≡ q = number_is block q at in
          let own : held_at block blocks ≡ old = ap (λ (found : Option Held). unwrap_or found nothing) e in
          subst (λ (held : Held). Begins (f held)) own (h same (subst (λ n. Begins (held_at n blocks)) (sym same) begins))
      one old e false at = begins

      by : (found : Option Held) → entry_at block blocks ≡ found → Begins (held_at q (held_changed_by f block found blocks))
      by None e = begins
      by (Some old) e = subst (λ (found : Option Held). Begins (unwrap_or found nothing)) (sym (set_there block q old (f old) blocks e)) (one old e (is_number block q) refl)

  -- ---- each kind of call

  -- there is no other replica
  no_new : (held new : Held) (later : Option ReplicaRefusal) → refused_new_replica later held.replica ≡ None → Begins held → Begins new
  no_new held new later h begins =
      let refused : refused_new_replica later (Some begins.replica) ≡ None = subst (λ (found : Option Replica). refused_new_replica later found ≡ None) begins.there h in
      absurd (never ReplicaExists refused)

  appends : (more : List ℕ) (held : Held) → Begins held → Begins (with_bytes_appended more held)
  appends more held begins = record {
    replica = record begins.replica { bytes = begins.replica.bytes ++ more };
    there = ap (λ (found : Option Replica). (with_bytes_appended more (record held { replica = found })).replica) begins.there;
    enough = longer bytes (length begins.replica.bytes) (length more) (length (begins.replica.bytes ++ more)) begins.enough (length-append begins.replica.bytes more);
    first = take-append-le bytes begins.replica.bytes more begins.enough ∙ begins.first;
  }
    where
      longer : (a b c d : ℕ) → a ≤ b → d ≡ b + c → a ≤ d
      longer a b c d h e = omega (arith, h, e)

  finalizes : (held : Held) → Begins held → Begins (with_replica_finalized held)
  finalizes held begins = record {
    replica = record begins.replica { state = Finalized };
    there = ap (λ (found : Option Replica). (with_replica_finalized (record held { replica = found })).replica) begins.there;
    enough = begins.enough;
    first = begins.first;
  }

  promises : (stamp : ℕ) (held : Held) → Begins held → Begins (with_promise stamp held)
  promises stamp held begins = record { replica = begins.replica; there = begins.there; enough = begins.enough; first = begins.first }

  -- it isn't cut to more than it has
  within : (limit stamp promised count : ℕ) (replica : Replica) → replica_refusal limit (call.UpdateReplica count) stamp (record { replica = Some replica; promised = promised }) ≡ None → count ≤ length replica.bytes
  within limit stamp promised count replica h =
      ltb-false (length replica.bytes) count
      (passed (nat_lt (length replica.bytes) count) OutOfRange None
      (passed (replica.stamp == stamp) NotWritable (refused_or_later (nat_lt (length replica.bytes) count) OutOfRange None)
      (passed (not (stamp == promised)) (StampDiffers promised) (refused_or_later (replica.stamp == stamp) NotWritable (refused_or_later (nat_lt (length replica.bytes) count) OutOfRange None)) h).1).1).0

  updates : (limit stamp count : ℕ) (held : Held) → replica_refusal limit (call.UpdateReplica count) stamp held ≡ None → bytes ≤ count → Begins held → Begins (with_replica_recovered stamp count held)
  updates limit stamp count held h low begins =
      let fits : count ≤ length begins.replica.bytes =
      within limit stamp held.promised count begins.replica
      (subst (λ (found : Option Replica). replica_refusal limit (call.UpdateReplica count) stamp (record { replica = found; promised = held.promised }) ≡ None) begins.there h) in
      record {
        replica = record { stamp = stamp; state = Finalized; bytes = take count begins.replica.bytes };
        there = ap (λ (found : Option Replica). (with_replica_recovered stamp count (record held { replica = found })).replica) begins.there;
        enough = cut bytes count (length (take count begins.replica.bytes)) low (length-take-le count begins.replica.bytes fits);
        first = take-take bytes count begins.replica.bytes low ∙ begins.first;
      }
    where
      cut : (a b c : ℕ) → a ≤ b → c ≡ b → a ≤ c
      cut a b c h e = omega (arith, h, e)

  called : (limit stamp block : ℕ) (asked : TokenCall) (blocks : Replicas) → replica_refusal limit asked stamp (held_at block blocks) ≡ None → ((count : ℕ) → asked ≡ call.UpdateReplica count → block ≡ q → bytes ≤ count)
      → Begins (held_at q blocks) → Begins (held_at q (replicas_after asked stamp block blocks))
  called limit stamp block (call.Begin next) blocks e h begins =
      put_at block (newly_held stamp Writing []) blocks (λ same own. no_new (held_at block blocks) (newly_held stamp Writing []) (refused_or_later (nat_le stamp (held_at block blocks).promised) (StampDiffers (held_at block blocks).promised) None) e own) begins
  called limit stamp block (call.Packet offset more next) blocks e h begins = change_at block (with_bytes_appended more) blocks (λ same own. appends more (held_at block blocks) own) begins
  called limit stamp block (call.Finalize count next) blocks e h begins = change_at block with_replica_finalized blocks (λ same own. finalizes (held_at block blocks) own) begins
  called limit stamp block (call.Read offset count) blocks e h begins = begins
  called limit stamp block call.InitRecovery blocks e h begins = change_at block (with_promise stamp) blocks (λ same own. promises stamp (held_at block blocks) own) begins
  called limit stamp block (call.UpdateReplica count) blocks e h begins = change_at block (with_replica_recovered stamp count) blocks (λ same own. updates limit stamp count (held_at block blocks) e (h count refl same) own) begins
  called limit stamp block (call.SendCopy to) blocks e h begins = begins
  called limit stamp block (call.TakeCopy copy) blocks e h begins =
      put_at block (newly_held stamp Finalized copy) blocks
      (λ same own. no_new (held_at block blocks) (newly_held stamp Finalized copy)
      (refused_or_later (nat_lt stamp (held_at block blocks).promised) (StampDiffers (held_at block blocks).promised) (refused_or_later (nat_lt limit (length copy)) OutOfRange None)) e own) begins

  -- ---- a node

  presented_keeps : (node : DataNode) (clock : ℕ) (own : Presented) (asked : TokenCall) → ((count : ℕ) → asked ≡ call.UpdateReplica count → own.block ≡ q → call_refusal node clock own asked ≡ None → bytes ≤ count)
      → Begins (held_at q node.blocks) → Begins (held_at q (presented_after node clock own asked).blocks)
  unfolding presented_after
  presented_keeps node clock own asked h begins = by (call_refusal node clock own asked) refl
    where
      by : (refused : Option NodeRefusal) → call_refusal node clock own asked ≡ refused → Begins (held_at q (presented_by node clock own asked refused).blocks)
      by (Some refusal) e = begins
      by None e =
          called node.limit own.stamp own.block asked node.blocks
          (replica_passes (token_test node.keys (access_of clock own asked) own.token) (replica_refusal node.limit asked own.stamp (held_at own.block node.blocks)) e)
          (λ count is same. h count is same e) begins

  -- where no recovery cuts the replica to less, and it isn't removed
  pub node_keeps : (node : DataNode) (now : ℕ) (asked : NodeCall)
      → ((presented : Presented) (count : ℕ) (told : NodeReply) → asked ≡ Presenting presented (call.UpdateReplica count) → presented.block ≡ q → (node_answer node now asked).result ≡ Ok told → bytes ≤ count)
      → ((stamp : ℕ) (told : NodeReply) → asked ≡ Invalidate q stamp → (node_answer node now asked).result ≡ Ok told → ⊥)
      → Begins (held_at q node.blocks) → Begins (held_at q (node_after node now asked).blocks)
  unfolding node_after node_answer
  node_keeps node now (Presenting presented asked) h k begins =
      presented_keeps node (clock_with node now) (asked_by node.id presented asked) asked
      (λ count is same allowed. h presented count (call_reply asked (held_at (asked_by node.id presented asked).block node.blocks)) (ap (Presenting presented) is)
      (sym (asked_block node.id presented asked) ∙ same) (served_answer node now presented asked allowed)) begins
  node_keeps node now (Keys update) h k begins = begins
  node_keeps node now (Invalidate block stamp) h k begins = by (removal_refusal stamp (held_at block node.blocks).replica) refl
    where
      by : (refused : Option ReplicaRefusal) → removal_refusal stamp (held_at block node.blocks).replica ≡ refused → Begins (held_at q (removed_by node block refused).blocks)
      by (Some refusal) e = begins
      by None e =
          change_at block with_no_replica node.blocks
          (λ same own. absurd (k stamp reply.Removed (ap (λ (n : ℕ). Invalidate n stamp) same) (ap (λ (refused : Option ReplicaRefusal). (removal_told refused).result) e))) begins
