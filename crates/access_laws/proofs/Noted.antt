-- What a call leaves and tells, by the access that is noted down of it.
use Rattle.std.proofs.Common.{◌≡◌, ℕ, true, false, List, [], ◌∷◌, ◌++◌, length, Option, Some, None, Ok, refl, ap, ◌∙◌}
use Rattle.std.specs.List.{list_any}
use Rattle.permission_bits.specs.Rights.{covers}
use Rattle.node_ids.specs.NodeId.{node_of}
use Rattle.call_parts.specs.declared.access_log.AccessRecord.{AccessRecord}
use Rattle.call_parts.specs.declared.presented.Presented.{Presented}
use Rattle.node_calls.specs.declared.call.NodeCall.{NodeCall}
use Rattle.node_calls.specs.declared.call.NodeCall.TheVariants.{Presenting, Invalidate, Keys}
use Rattle.node_calls.specs.declared.call.PlanCall.TheVariants as plan
use Rattle.node_calls.specs.declared.call.TokenCall.{TokenCall}
use Rattle.node_calls.specs.declared.call.TokenCall.TheVariants as call
use Rattle.node_calls.specs.declared.message.Message.TheVariants as message
use Rattle.node_calls.specs.declared.refusal.NodeRefusal.{NodeRefusal}
use Rattle.node_calls.specs.declared.refusal.ReplicaRefusal.{ReplicaRefusal}
use Rattle.replica_steps.specs.ReplicaStep.{Replicas, held_at, own, removal_refusal, replicas_after}
use Rattle.replica_steps.specs.declared.held.Held.{Held}
use Rattle.replicas.specs.Asking.{asked_by, modes_of_call, record_of}
use Rattle.replicas.specs.Sending.{call_reply, call_sends, to_primary}
use Rattle.datanode.specs.NodeStep.{DataNode, node_after, node_answer, presented_after, presented_answer, presented_by, told_by, removed_by, clock_with, call_refusal}
use Rattle.access_laws.specs.Laws.{IsNoted, reads, writes, tells_bytes, sends_bytes}

differ : true ≡ false → ⊥
differ e = cc

-- ---- logs

behind_first : (x : AccessRecord) (xs ys : List AccessRecord) → x ∷ xs ≡ x ∷ ys → xs ≡ ys
behind_first x xs ys e = cc

same_last : (log : List AccessRecord) (a b : AccessRecord) → log ++ a ∷ [] ≡ log ++ b ∷ [] → a ≡ b
same_last [] a b e = cc
same_last (x ∷ xs) a b e = same_last xs a b (behind_first x (xs ++ a ∷ []) (xs ++ b ∷ []) e)

no_longer : (log : List AccessRecord) (a : AccessRecord) → log ≡ log ++ a ∷ [] → ⊥
no_longer [] a e = cc
no_longer (x ∷ xs) a e = no_longer xs a (behind_first x xs (xs ++ a ∷ []) e)

-- ---- by what is asked

unchanged : (asked : TokenCall) (stamp block : ℕ) (blocks : Replicas) → covers (modes_of_call asked).0 2 ≡ false → replicas_after asked stamp block blocks ≡ blocks
unchanged (call.Begin next) stamp block blocks h = absurd (differ h)
unchanged (call.Packet offset bytes next) stamp block blocks h = absurd (differ h)
unchanged (call.Finalize count next) stamp block blocks h = absurd (differ h)
unchanged (call.Read offset count) stamp block blocks h = refl
unchanged call.InitRecovery stamp block blocks h = absurd (differ h)
unchanged (call.UpdateReplica count) stamp block blocks h = absurd (differ h)
unchanged (call.SendCopy to) stamp block blocks h = refl
unchanged (call.TakeCopy bytes) stamp block blocks h = absurd (differ h)

untold : (asked : TokenCall) (held : Held) → covers (modes_of_call asked).0 1 ≡ false → tells_bytes (Ok (call_reply asked held)) ≡ false
untold (call.Begin next) held h = refl
untold (call.Packet offset bytes next) held h = refl
untold (call.Finalize count next) held h = refl
untold (call.Read offset count) held h = absurd (differ h)
untold call.InitRecovery held h = refl
untold (call.UpdateReplica count) held h = refl
untold (call.SendCopy to) held h = refl
untold (call.TakeCopy bytes) held h = refl

unsent : (node : ℕ) (given : Presented) (asked : TokenCall) (held : Held) → covers (modes_of_call asked).0 1 ≡ false → list_any sends_bytes (call_sends node given asked held) ≡ false
unsent node given (call.Begin []) held h = refl
unsent node given (call.Begin (first ∷ next)) held h = refl
unsent node given (call.Packet offset bytes []) held h = refl
unsent node given (call.Packet offset bytes (first ∷ next)) held h = refl
unsent node given (call.Finalize count []) held h = refl
unsent node given (call.Finalize count (first ∷ next)) held h = refl
unsent node given (call.Read offset count) held h = refl
unsent node given call.InitRecovery held h = by (node_of given.caller)
  where
    by : (o : Option ℕ) → list_any sends_bytes (to_primary o (λ primary. message.Plan primary (plan.Reply node given.block given.stamp (own held).state (length (own held).bytes)))) ≡ false
    by None = refl
    by (Some primary) = refl
unsent node given (call.UpdateReplica count) held h = by (node_of given.caller)
  where
    by : (o : Option ℕ) → list_any sends_bytes (to_primary o (λ primary. message.Plan primary (plan.Updated node given.block given.stamp)) ++ message.Reported node given.block given.stamp count ∷ []) ≡ false
    by None = refl
    by (Some primary) = refl
unsent node given (call.SendCopy to) held h = absurd (differ h)
unsent node given (call.TakeCopy bytes) held h = refl

-- ---- calls that present a token

module _ (node : DataNode) (clock : ℕ) (given : Presented) (asked : TokenCall) (entry : AccessRecord) where
  -- what is noted of a call that isn't refused
  abbrev own_record : AccessRecord
  own_record = record_of node.id clock given asked (held_at given.block node.blocks)

  pub presented_unchanged : (presented_after node clock given asked).log ≡ node.log ++ entry ∷ [] → writes entry ≡ false → (presented_after node clock given asked).blocks ≡ node.blocks
  unfolding presented_after
  presented_unchanged noted h = by (call_refusal node clock given asked) noted
    where
      by : (refused : Option NodeRefusal) → (presented_by node clock given asked refused).log ≡ node.log ++ entry ∷ [] → (presented_by node clock given asked refused).blocks ≡ node.blocks
      by (Some refusal) e = refl
      by None e = unchanged asked given.stamp given.block node.blocks (ap writes (same_last node.log own_record entry e) ∙ h)

  pub presented_untold : (presented_after node clock given asked).log ≡ node.log ++ entry ∷ [] → reads entry ≡ false
      → (tells_bytes (presented_answer node clock given asked).result ≡ false) × (list_any sends_bytes (presented_answer node clock given asked).messages ≡ false)
  unfolding presented_after presented_answer
  presented_untold noted h = by (call_refusal node clock given asked) noted
    where
      by : (refused : Option NodeRefusal) → (presented_by node clock given asked refused).log ≡ node.log ++ entry ∷ []
          → (tells_bytes (told_by node given asked refused).result ≡ false) × (list_any sends_bytes (told_by node given asked refused).messages ≡ false)
      by (Some refusal) e = (refl, refl)
      by None e =
          let no : covers (modes_of_call asked).0 1 ≡ false = ap reads (same_last node.log own_record entry e) ∙ h in
          (untold asked (held_at given.block node.blocks) no, unsent node.id given asked (held_at given.block node.blocks) no)

-- ---- all calls

pub readers : (node : DataNode) (now : ℕ) (asked : NodeCall) (entry : AccessRecord) → IsNoted node now asked entry → writes entry ≡ false → (node_after node now asked).blocks ≡ node.blocks
unfolding node_after
readers node now (Presenting given asked) entry noted h = presented_unchanged node (clock_with node now) (asked_by node.id given asked) asked entry noted h
readers node now (Keys update) entry noted h = absurd (no_longer node.log entry noted)
readers node now (Invalidate block stamp) entry noted h = absurd (by (removal_refusal stamp (held_at block node.blocks).replica) noted)
  where
    by : (refused : Option ReplicaRefusal) → (removed_by node block refused).log ≡ node.log ++ entry ∷ [] → ⊥
    by (Some refusal) e = no_longer node.log entry e
    by None e = no_longer node.log entry e

pub writers : (node : DataNode) (now : ℕ) (asked : NodeCall) (entry : AccessRecord) → IsNoted node now asked entry → reads entry ≡ false
    → (tells_bytes (node_answer node now asked).result ≡ false) × (list_any sends_bytes (node_answer node now asked).messages ≡ false)
unfolding node_after node_answer
writers node now (Presenting given asked) entry noted h = presented_untold node (clock_with node now) (asked_by node.id given asked) asked entry noted h
writers node now (Keys update) entry noted h = absurd (no_longer node.log entry noted)
writers node now (Invalidate block stamp) entry noted h = absurd (by (removal_refusal stamp (held_at block node.blocks).replica) noted)
  where
    by : (refused : Option ReplicaRefusal) → (removed_by node block refused).log ≡ node.log ++ entry ∷ [] → ⊥
    by (Some refusal) e = no_longer node.log entry e
    by None e = no_longer node.log entry e
