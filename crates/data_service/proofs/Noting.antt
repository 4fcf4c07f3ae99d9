-- What a call notes down, and what its caller keeps of that.
use Rattle.std.proofs.Common.{◌≡◌, ◌⊎◌, ℕ, suc, ◌∙◌, Bool, true, false, IsSome, List, [], ◌∷◌, ◌++◌, length, Option, Some, None, refl, sym, ap, cond, subst, slice_get, inl, inr, arith}
use Rattle.std.proofs.lemmas.List.{append-nil, append_cancel_left}
use Rattle.std.proofs.lemmas.Option.{slice_get_past}
use Rattle.node_ids.specs.NodeId.{node_principal}
use Rattle.call_parts.specs.declared.access_log.AccessRecord.{AccessRecord}
use Rattle.call_parts.specs.declared.presented.Presented.{Presented}
use Rattle.node_calls.specs.declared.call.NodeCall.{NodeCall}
use Rattle.node_calls.specs.declared.call.NodeCall.TheVariants.{Presenting, Invalidate, Keys}
use Rattle.node_calls.specs.declared.call.TokenCall.{TokenCall}
use Rattle.node_calls.specs.declared.refusal.NodeRefusal.{NodeRefusal}
use Rattle.node_calls.specs.declared.refusal.ReplicaRefusal.{ReplicaRefusal}
use Rattle.replicas.specs.Asking.{asked_by, record_of, sends_copy}
use Rattle.replica_steps.specs.ReplicaStep.{held_at, removal_refusal}
use Rattle.datanode.specs.Kept.{AreCovered, HasFittingToken}
use Rattle.datanode.specs.NodeStep.{DataNode, node_after, node_answer, presented_after, presented_answer, presented_by, told_by, removed_by, clock_with, call_refusal}
use Rattle.data_service.specs.declared.seat.Parts.{Parts}
use Rattle.data_service.specs.Parts.{parts_in}
use Rattle.data_service.specs.Seats.{Seat, Keeps, KeepsNew, numbered}

-- ---- the log behind a call

-- it has no record more, or one of the call
pub data Noted (node : DataNode) (moment : ℕ) (asked : NodeCall) : Type 0 where
  nothing : (node_after node moment asked).log ≡ node.log → Noted node moment asked
  one : (entry : AccessRecord) → (node_after node moment asked).log ≡ node.log ++ entry ∷ [] → parts_in node.id asked ≡ Some (record { caller = entry.caller; token = entry.token }) → Noted node moment asked

own_token : (node : ℕ) (presented : Presented) (asked : TokenCall) → (asked_by node presented asked).token ≡ presented.token
own_token node presented asked = by (sends_copy asked)
  where
    own : Presented
    own = record presented { caller = node_principal node }

    by : (b : Bool) → (cond b own presented).token ≡ presented.token
    by true = refl
    by false = refl

own_block : (node : ℕ) (presented : Presented) (asked : TokenCall) → (asked_by node presented asked).block ≡ presented.block
own_block node presented asked = by (sends_copy asked)
  where
    own : Presented
    own = record presented { caller = node_principal node }

    by : (b : Bool) → (cond b own presented).block ≡ presented.block
    by true = refl
    by false = refl

log_of_call : (node : DataNode) (moment : ℕ) (presented : Presented) (asked : TokenCall)
    → (node_after node moment (Presenting presented asked)).log ≡ (presented_by node (clock_with node moment) (asked_by node.id presented asked) asked (call_refusal node (clock_with node moment) (asked_by node.id presented asked) asked)).log
unfolding node_after presented_after
log_of_call node moment presented asked = refl

answer_of_call : (node : DataNode) (moment : ℕ) (presented : Presented) (asked : TokenCall)
    → node_answer node moment (Presenting presented asked) ≡ told_by node (asked_by node.id presented asked) asked (call_refusal node (clock_with node moment) (asked_by node.id presented asked) asked)
unfolding node_answer presented_answer
answer_of_call node moment presented asked = refl

log_of_removal : (node : DataNode) (moment block stamp : ℕ) → (node_after node moment (Invalidate block stamp)).log ≡ node.log
unfolding node_after
log_of_removal node moment block stamp = by (removal_refusal stamp (held_at block node.blocks).replica)
  where
    by : (refused : Option ReplicaRefusal) → (removed_by node block refused).log ≡ node.log
    by (Some refusal) = refl
    by None = refl

log_of_keys : (node : DataNode) (moment : ℕ) (update : _) → (node_after node moment (Keys update)).log ≡ node.log
unfolding node_after
log_of_keys node moment update = refl

pub noted : (node : DataNode) (moment : ℕ) (asked : NodeCall) → Noted node moment asked
noted node moment (Presenting presented asked) = by (call_refusal node clock own asked) (log_of_call node moment presented asked)
  where
    clock : ℕ
    clock = clock_with node moment

    own : Presented
    own = asked_by node.id presented asked

    by : (refused : Option NodeRefusal) → (node_after node moment (Presenting presented asked)).log ≡ (presented_by node clock own asked refused).log → Noted node moment (Presenting presented asked)
    by (Some refusal) e = nothing e
    by None e = one (record_of node.id clock own asked (held_at own.block node.blocks)) e (ap (λ (token : List ℕ). Some (record { caller = own.caller; token = token })) (sym (own_token node.id presented asked)))
noted node moment (Invalidate block stamp) = nothing (log_of_removal node moment block stamp)
noted node moment (Keys update) = nothing (log_of_keys node moment update)

-- ---- the receipt of a record

last_is : (log : List AccessRecord) (entry : AccessRecord) → slice_get (log ++ entry ∷ []) (length log) ≡ Some entry
last_is [] entry = refl
last_is (first ∷ log) entry =
    let len : length (first ∷ log) ≡ suc (length log) = omega arith in
    ap (slice_get (first ∷ log ++ entry ∷ [])) len ∙ last_is log entry

some_is : {A : Type 0} (x y : A) → Some x ≡ Some y → x ≡ y
some_is x y e = cc

pub has_parts : (parts : Option Parts) → IsSome parts → (own : Parts) × (parts ≡ Some own)
has_parts (Some own) is = (own, refl)
has_parts None is = cc

-- what a look-up and a copy lack, told by what they are of
pub lacks_parts : (new_log : List AccessRecord) (node : DataNode) (asked : NodeCall) (records old : List AccessRecord) (parts : Option Parts)
    → slice_get new_log (length node.log) ≡ slice_get records (length old) → parts ≡ parts_in node.id asked → (slice_get records (length old) ≡ None) ⊎ (parts ≡ None)
    → (slice_get new_log (length node.log) ≡ None) ⊎ (parts_in node.id asked ≡ None)
lacks_parts new_log node asked records old parts looked_up are (inl past) = inl (looked_up ∙ past)
lacks_parts new_log node asked records old parts looked_up are (inr none) = inr (sym are ∙ none)

module _ (node : DataNode) (moment : ℕ) (asked : NodeCall) (new_log : List AccessRecord) (after : new_log ≡ (node_after node moment asked).log) where
  -- what stands behind the old log is the record of the call
  pub is_found : (entry : AccessRecord) (parts : Parts) → slice_get new_log (length node.log) ≡ Some entry → parts_in node.id asked ≡ Some parts
      → (parts ≡ record { caller = entry.caller; token = entry.token }) × (new_log ≡ node.log ++ entry ∷ [])
  is_found entry parts at is = by (noted node moment asked)
    where
      by : Noted node moment asked → (parts ≡ record { caller = entry.caller; token = entry.token }) × (new_log ≡ node.log ++ entry ∷ [])
      by (nothing same) = absurd (never (sym at ∙ slice_get_past new_log (length node.log) (omega (arith, ap length (after ∙ same)))))
        where
          never : Some entry ≡ None → ⊥
          never e = cc
      by (one own grown of_call) =
          let is_own : own ≡ entry = some_is own entry (sym (last_is node.log own) ∙ (ap (λ (log : List AccessRecord). slice_get log (length node.log)) (sym (after ∙ grown)) ∙ at)) in (
            some_is parts (record { caller = entry.caller; token = entry.token }) (sym is ∙ (of_call ∙ ap (λ (entry : AccessRecord). Some (record { caller = entry.caller; token = entry.token })) is_own)),
            after ∙ (grown ∙ ap (λ (entry : AccessRecord). node.log ++ entry ∷ []) is_own),
          )

  -- where nothing stands behind the old log, or the call notes nothing down, the log is the old one
  pub is_same : (slice_get new_log (length node.log) ≡ None) ⊎ (parts_in node.id asked ≡ None) → new_log ≡ node.log
  is_same lacks = by (noted node moment asked) lacks
    where
      by : Noted node moment asked → (slice_get new_log (length node.log) ≡ None) ⊎ (parts_in node.id asked ≡ None) → new_log ≡ node.log
      by (nothing same) lacks = after ∙ same
      by (one own grown of_call) (inl past) = absurd (never (sym (last_is node.log own) ∙ (ap (λ (log : List AccessRecord). slice_get log (length node.log)) (sym (after ∙ grown)) ∙ past)))
        where
          never : Some own ≡ None → ⊥
          never e = cc
      by (one own grown of_call) (inr none) = absurd (never (sym of_call ∙ none))
        where
          parts : Parts
          parts = record { caller = own.caller; token = own.token }

          never : Some parts ≡ None → ⊥
          never e = cc

  pub keeps_none : (old : Seat) → new_log ≡ node.log → KeepsNew node.log new_log old old
  keeps_none old same = ([], same ∙ sym (append-nil node.log), sym (append-nil old))

-- ---- what a caller keeps, whatever the node was

last_covered : (log : List AccessRecord) (entry : AccessRecord) → AreCovered (log ++ entry ∷ []) → HasFittingToken entry
last_covered [] entry covered = covered.0
last_covered (first ∷ log) entry covered = last_covered log entry covered.1

module _ (node : DataNode) (moment : ℕ) (old new : Seat) where
  -- one record more has one receipt
  one_receipt : (log : List AccessRecord) (entry : AccessRecord) → log ≡ node.log ++ entry ∷ [] → KeepsNew node.log log old new → new ≡ old ++ record { number = length node.log; entry = entry } ∷ []
  one_receipt log entry grown (entries, more, kept) = kept ∙ ap (λ (entries : List AccessRecord). old ++ numbered (length node.log) entries) (append_cancel_left node.log entries (entry ∷ []) (sym more ∙ grown))

  no_receipt : (log : List AccessRecord) → log ≡ node.log → KeepsNew node.log log old new → new ≡ old
  no_receipt log same (entries, more, kept) =
      kept ∙ (ap (λ (entries : List AccessRecord). old ++ numbered (length node.log) entries) (append_cancel_left node.log entries [] (sym more ∙ (same ∙ sym (append-nil node.log)))) ∙ append-nil old)

  pub keeps : (asked : NodeCall) → AreCovered (node_after node moment asked).log → KeepsNew node.log (node_after node moment asked).log old new → Keeps moment asked (node_answer node moment asked).result old new
  keeps (Invalidate block stamp) covered kept = no_receipt (node_after node moment (Invalidate block stamp)).log (log_of_removal node moment block stamp) kept
  keeps (Keys update) covered kept = no_receipt (node_after node moment (Keys update)).log (log_of_keys node moment update) kept
  keeps (Presenting presented asked) covered kept =
      by (call_refusal node clock own asked) (log_of_call node moment presented asked) (answer_of_call node moment presented asked)
    where
      clock : ℕ
      clock = clock_with node moment

      own : Presented
      own = asked_by node.id presented asked

      entry : AccessRecord
      entry = record_of node.id clock own asked (held_at own.block node.blocks)

      log : List AccessRecord
      log = (node_after node moment (Presenting presented asked)).log

      told : Type 0
      told = Keeps moment (Presenting presented asked) (node_answer node moment (Presenting presented asked)).result old new

      by : (refused : Option NodeRefusal) → log ≡ (presented_by node clock own asked refused).log → node_answer node moment (Presenting presented asked) ≡ told_by node own asked refused → told
      by (Some refusal) same answer = subst (λ answered. Keeps moment (Presenting presented asked) answered.result old new) (sym answer) (no_receipt log same kept)
      by None grown answer = subst (λ answered. Keeps moment (Presenting presented asked) answered.result old new) (sym answer) (
        record { number = length node.log; entry = entry },
        one_receipt log entry grown kept,
        record {
          caller = refl;
          block = own_block node.id presented asked;
          mode = refl;
          token = own_token node.id presented asked;
          fitting = last_covered node.log entry (subst AreCovered grown covered);
          in_time = omega arith;
        },
      )
