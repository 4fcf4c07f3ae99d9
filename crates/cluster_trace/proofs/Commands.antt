-- The keys in the answer to a heartbeat are keys that the NameNode made, and keys that were made stay so.
use Rattle.std.proofs.Common.{ℕ, ◌+◌, inl, inr, List, [], ◌∷◌, ◌++◌, map, refl, Option, Some, None}
use Rattle.std.specs.Bool.{⊤}
use Rattle.std.specs.List.{AllByRecursion}
use Rattle.block_tokens.specs.KeyList.{KeyList}
use Rattle.block_tokens.specs.Ring.{KeyRing, ring_keys, update_of}
use Rattle.node_ids.specs.NodeId.{node_of}
use Rattle.block_answers.specs.Commands.{Commands}
use Rattle.block_answers.specs.declared.commands.CopyOrder.{CopyOrder}
use Rattle.block_answers.specs.declared.commands.Recover.{Recover}
use Rattle.block_answers.specs.declared.commands.Removal.{Removal}
use Rattle.block_answers.specs.declared.key_list.HeldKey.{HeldKey}
use Rattle.block_records.specs.declared.last_block.LastBlock.{LastBlock}
use Rattle.hdfs_types.specs.declared.op.Op.{Op}
use Rattle.hdfs_types.specs.declared.op.Op.TheVariants as op
use Rattle.hdfs_types.specs.declared.op.Request.{Request}
use Rattle.refusals.specs.declared.refusal.Refusal.{Refusal}
use Rattle.hdfs_types.specs.declared.reply.Reply.{Reply}
use Rattle.hdfs_types.specs.declared.reply.Reply.TheVariants as reply
use Rattle.namespace_rows.specs.declared.row.Row.{Row}
use Rattle.namespace_rows.specs.Rows.{row_at}
use Rattle.flat_rows.specs.BlockOutcome.{added_to, replication_at}
use Rattle.flat_rows.specs.Decision.{decision}
use Rattle.flat_rows.specs.Denial as denied
use Rattle.flat_rows.specs.Facts.{Facts}
use Rattle.flat_rows.specs.FileOutcome.{holder_at}
use Rattle.flat_rows.specs.NodeOutcome.{heartbeat_reply}
use Rattle.flat_rows.specs.Outcome.{reply_of, status_of, acl_status_of, serial_reply, first_refusal, refused_or_done, denied_or_outcome, step}
use Rattle.flat_rows.specs.Takeover.{unfinished_at, appended_reply}
use Rattle.principals.specs.Users.{Users}
use Rattle.flat_rows.specs.declared.verdict.Verdict.{Verdict}
use Rattle.flat_rows.specs.declared.verdict.Verdict.TheVariants.{Done, Denied, Refused}
use Rattle.history.specs.Config as name
use Rattle.history.specs.ClockAndLease.{clock_of}
use Rattle.history.specs.Keys.{ring_after, ring_by, ring_of}
use Rattle.history.specs.LegalHistory.{now_at, verdict_of}
use Rattle.history.specs.State.{rows_of, users_of, facts_of}
use Rattle.history.specs.declared.entry.HistoryEntry.{HistoryEntry}
use Rattle.cluster_trace.specs.Provenance.{IsIn}
use Rattle.cluster_trace.specs.Trace.{recover_message, removal_message, copy_message, command_messages, told_messages, sent_by}
use Rattle.cluster_trace.proofs.Each.{each_append, each_more, each_map}
use Rattle.cluster_trace.proofs.Keys.{Made, usable_made, MessageBrings}

-- ---- keys that were made

abbrev pub key_in : ℕ × HeldKey → ℕ × List ℕ
key_in own = (own.0, own.1.key)

abbrev pub IsMade : KeyRing → ℕ × List ℕ → Type 0
IsMade ring own = IsIn own (map key_in (ring_keys ring))

all_made : (keys : KeyList) → AllByRecursion (λ (own : ℕ × HeldKey). IsIn (key_in own) (map key_in keys)) keys
all_made [] = tt
all_made (own ∷ keys) =
    (inl refl, each_more (λ (one : ℕ × HeldKey). IsIn (key_in one) (map key_in keys)) (λ (one : ℕ × HeldKey). IsIn (key_in one) (map key_in (own ∷ keys))) (λ one i. inr i) keys (all_made keys))

-- an update is of keys that were made
pub update_made : (ring : KeyRing) (now : ℕ) → Made (IsMade ring) (update_of ring now)
unfolding update_of
update_made ring now = usable_made (IsMade ring) now (ring_keys ring) (all_made (ring_keys ring))

-- a key that expires is the same key, and one more stands behind it
rolled : (older more : KeyList) (serial : ℕ) (key : List ℕ) (expiry : Option ℕ) (own : ℕ × List ℕ)
    → IsIn own (map key_in (older ++ (serial, record { key = key; expiry = None }) ∷ []))
    → IsIn own (map key_in ((older ++ (serial, record { key = key; expiry = expiry }) ∷ []) ++ more))
rolled [] more serial key expiry own (inl e) = inl e
rolled [] more serial key expiry own (inr i) = absurd i
rolled (first ∷ older) more serial key expiry own (inl e) = inl e
rolled (first ∷ older) more serial key expiry own (inr i) = inr (rolled older more serial key expiry own i)

made_after : (what : Op) (now : ℕ) (ring : KeyRing) (own : ℕ × List ℕ) → IsMade ring own → IsMade (ring_after what now ring) own
made_after (op.RollKey key) now ring own i =
    rolled ring.older ((ring.serial + 1, record { key = key; expiry = None }) ∷ []) ring.serial ring.key (Some (now + ring.lifetime)) own i
made_after _ now ring own i = i

made_by : (what : Op) (verdict : Verdict) (now : ℕ) (ring : KeyRing) (own : ℕ × List ℕ) → IsMade ring own → IsMade (ring_by what verdict now ring) own
made_by what (Done told) now ring own i = made_after what now ring own i
made_by what (Denied denial) now ring own i = i
made_by what (Refused refusal) now ring own i = i

pub stays_made : (opening : name.Opening) (entry : HistoryEntry) (earlier : List HistoryEntry) (own : ℕ × List ℕ)
    → IsMade (ring_of opening earlier) own → IsMade (ring_of opening (entry ∷ earlier)) own
stays_made opening entry earlier own i = made_by entry.request.op entry.verdict (clock_of (entry ∷ earlier)) (ring_of opening earlier) own i

-- ---- what a request is answered

-- commands bring these keys alone
abbrev pub TellsKeys : (KeyList → Type 0) → Reply → Type 0
TellsKeys P (reply.Commands commands) = P commands.keys
TellsKeys P _ = ⊤

module _ (P : KeyList → Type 0) where
  status_tells : (row : Option Row) → TellsKeys P (status_of row)
  status_tells None = tt
  status_tells (Some row) = tt

  acl_tells : (row : Option Row) → TellsKeys P (acl_status_of row)
  acl_tells None = tt
  acl_tells (Some row) = tt

  append_tells : (facts : Facts) (holder : Option (List ℕ)) (block : Option ℕ) → TellsKeys P (appended_reply facts.blocks holder block)
  append_tells facts None block = tt
  append_tells facts (Some holder) None = tt
  append_tells facts (Some holder) (Some block) = tt

  serial_tells : (serial : Option ℕ) → TellsKeys P (serial_reply serial)
  serial_tells None = tt
  serial_tells (Some serial) = tt

  added_tells : (facts : Facts) (caller : List ℕ) (last : Option LastBlock) (replication : Option ℕ) → TellsKeys P (added_to facts.token caller facts.blocks last facts.now replication)
  added_tells facts caller last None = tt
  added_tells facts caller last (Some replication) = tt

  heartbeat_tells : (facts : Facts) (principal : List ℕ) (node : Option ℕ) → P facts.keys → TellsKeys P (heartbeat_reply facts principal node)
  heartbeat_tells facts principal None h = tt
  heartbeat_tells facts principal (Some node) h = h

  reply_tells : (facts : Facts) (caller : List ℕ) (what : Op) (rows : List Row) → P facts.keys → TellsKeys P (reply_of facts caller what rows)
  reply_tells facts caller (op.Stat path) rows h = status_tells (row_at path rows)
  reply_tells facts caller (op.GetAcl path) rows h = acl_tells (row_at path rows)
  reply_tells facts caller (op.Append path) rows h = append_tells facts (holder_at (row_at path rows)) (unfinished_at (row_at path rows))
  reply_tells facts caller (op.AddBlock path last) rows h = added_tells facts caller last (replication_at (row_at path rows))
  reply_tells facts caller (op.RollKey key) rows h = serial_tells facts.next_serial
  reply_tells facts caller op.Heartbeat rows h = heartbeat_tells facts caller (node_of caller) h
  reply_tells facts caller _ rows h = tt

  abbrev pub VerdictTells : Verdict → Type 0
  VerdictTells (Done told) = TellsKeys P told
  VerdictTells (Denied denial) = ⊤
  VerdictTells (Refused refusal) = ⊤

  pub step_tells : (facts : Facts) (rows : List Row) (users : Users) (caller : List ℕ) (what : Op) → P facts.keys → VerdictTells (step facts rows users caller what).verdict
  step_tells facts rows users caller what h = by (decision rows users caller what)
    where
      outcome_tells : (refusal : Option Refusal) → VerdictTells (refused_or_done facts rows users caller what refusal).verdict
      outcome_tells None = reply_tells facts caller what rows h
      outcome_tells (Some refusal) = tt

      by : (denial : Option denied.Denial) → VerdictTells (denied_or_outcome facts rows users caller what denial).verdict
      by None = outcome_tells (first_refusal facts caller what rows users)
      by (Some denial) = tt

-- ---- the messages of an entry

module _ (P : ℕ × List ℕ → Type 0) where
  commands_bring : (node : ℕ) (commands : Commands) → Made P commands.keys → AllByRecursion (MessageBrings P) (command_messages node commands)
  commands_bring node commands made = (
    made,
    each_append (MessageBrings P) (map (recover_message node) commands.recoveries) (map (removal_message node) commands.removals ++ map (copy_message node) commands.copies)
        (each_map (MessageBrings P) (recover_message node) (λ (own : Recover). tt) commands.recoveries)
        (each_append (MessageBrings P) (map (removal_message node) commands.removals) (map (copy_message node) commands.copies)
        (each_map (MessageBrings P) (removal_message node) (λ (own : Removal). tt) commands.removals)
        (each_map (MessageBrings P) (copy_message node) (λ (own : CopyOrder). tt) commands.copies)),
  )

  told_bring : (caller : Option ℕ) (told : Reply) → TellsKeys (Made P) told → AllByRecursion (MessageBrings P) (told_messages caller told)
  told_bring (Some node) (reply.Commands commands) made = commands_bring node commands made
  told_bring _ told made = tt

  pub verdict_brings : (caller : Option ℕ) (verdict : Verdict) → VerdictTells (Made P) verdict → AllByRecursion (MessageBrings P) (sent_by caller verdict)
  verdict_brings caller (Done told) made = told_bring caller told made
  verdict_brings caller (Denied denial) made = tt
  verdict_brings caller (Refused refusal) made = tt

-- whatever a request is answered, the messages that are sent with it bring keys that were made
pub request_brings : (opening : name.Opening) (earlier : List HistoryEntry) (request : Request)
    → AllByRecursion (MessageBrings (IsMade (ring_of opening earlier))) (sent_by (node_of request.caller) (verdict_of opening earlier request))
request_brings opening earlier request =
    verdict_brings (IsMade (ring_of opening earlier)) (node_of request.caller) (verdict_of opening earlier request)
    (step_tells (Made (IsMade (ring_of opening earlier))) (facts_of opening earlier (now_at earlier request)) (rows_of opening earlier) (users_of earlier) request.caller request.op
    (update_made (ring_of opening earlier) (now_at earlier request)))
