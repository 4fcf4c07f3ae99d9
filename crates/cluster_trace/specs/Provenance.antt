-- Where tokens come from: whatever happens, a DataNode serves a call that presents a token only where the NameNode had granted that token
-- to that caller, for that block, with a mode that allows the call, and with an expiry that hasn't come at that DataNode; or where the
-- token is forged, under a key of the NameNode's own.
-- (HADOOP-4359: a DataNode takes a token by the keys that the NameNode sends it, and asks nobody.)
use Rattle.std.specs.Prelude.{◌≡◌, ℕ, ◌+◌, ◌<◌, ◌⊎◌, true, if◌then◌else◌, List, [], ◌∷◌, map, length, Option, Some, None, Ok, Err}
use Rattle.std.specs.Bool.{⊤}
use Rattle.permission_bits.specs.Rights.{covers}
use Rattle.block_records.specs.Numbers.{entry_at}
use Rattle.hdfs_types.specs.declared.op.Request.{Request}
use Rattle.block_answers.specs.declared.key_list.HeldKey.{HeldKey}
use Rattle.block_tokens.specs.Hmac.{hmac_sha1}
use Rattle.block_tokens.specs.Ring.{ring_keys}
use Rattle.block_tokens.specs.TokenText.{Body, TokenText, coded_bytes}
use Rattle.grant_ledger.specs.declared.ledger.LedgerRow.{LedgerRow}
use Rattle.history.specs.Grants.{ledger_of}
use Rattle.history.specs.Keys.{ring_of}
use Rattle.node_calls.specs.declared.call.NodeCall.{NodeCall}
use Rattle.node_calls.specs.declared.call.NodeCall.TheVariants.{Presenting, Invalidate, Keys}
use Rattle.node_calls.specs.declared.call.TokenCall.{TokenCall}
use Rattle.node_calls.specs.declared.message.Message.{Message}
use Rattle.node_calls.specs.declared.message.Message.TheVariants as message
use Rattle.call_parts.specs.declared.presented.Presented.{Presented}
use Rattle.replicas.specs.Asking.{asked_by, modes_of_call}
use Rattle.datanode.specs.NodeStep.{DataNode, clock_with}
use Rattle.cluster_trace.specs.DataCall.{as_message}
use Rattle.cluster_trace.specs.Trace.{Cluster, ClusterOpening, Happened, entry_of, message_at, report_request, commit_request, is_from_outside, event_happened, after}
use Rattle.cluster_trace.specs.declared.event.Event.{Event}
use Rattle.cluster_trace.specs.declared.event.Event.TheVariants.{Name, Deliver, Data}
use Rattle.cluster_trace.specs.declared.outcome.EventAnswer.{EventAnswer}
use Rattle.cluster_trace.specs.declared.outcome.EventAnswer.TheVariants.{Named, Called, Led, Lost}

abbrev pub IsIn : {X : Type 0} → X → List X → Type 0
IsIn x [] = ⊥
IsIn x (y ∷ ys) = (x ≡ y) ⊎ IsIn x ys

-- ---- what the NameNode granted, and the keys that it made, up to now

abbrev pub ledger_in : Cluster → List LedgerRow
ledger_in state = ledger_of state.opening state.entries

-- with their serials; the first is the one that it opened with
abbrev pub keys_made : Cluster → List (ℕ × List ℕ)
keys_made state = map (λ (own : ℕ × HeldKey). (own.0, own.1.key)) (ring_keys (ring_of state.opening state.entries))

-- a grant covers what is presented with a call at a moment
pub record Covers (row : LedgerRow) (clock : ℕ) (presented : Presented) (asked : TokenCall) : Type 0 where
  pub token : row.grant.token ≡ presented.token
  pub user : row.grant.user ≡ presented.caller
  pub block : row.grant.block ≡ presented.block
  pub mode : covers row.grant.modes.0 (modes_of_call asked).0 ≡ true
  pub in_time : clock < row.grant.expiry

abbrev pub IsGranted : Cluster → ℕ → Presented → TokenCall → Type 0
IsGranted state clock presented asked = (row : LedgerRow) × IsIn row (ledger_in state) × Covers row clock presented asked

-- the text of a token whose code is right under the key that the NameNode made with its serial, and that wasn't granted
pub record IsForged (state : Cluster) (bytes : List ℕ) : Type 0 where
  pub parts : Body
  pub key : List ℕ
  pub text : TokenText bytes parts
  pub made : IsIn (parts.serial, key) (keys_made state)
  pub code : parts.code ≡ hmac_sha1 key (coded_bytes parts)
  pub not_granted : (row : LedgerRow) → IsIn row (ledger_in state) → row.grant.token ≡ bytes → ⊥

-- ---- what an event asks, and of whom

abbrev pub request_brought : ℕ → Option Message → Option Request
request_brought now (Some (message.Reported node block stamp bytes)) = Some (report_request node now block stamp bytes)
request_brought now (Some (message.CommitRecovery node block stamp bytes nodes)) = Some (commit_request node now block stamp bytes nodes)
request_brought now _ = None

abbrev pub request_made : Cluster → Event → Option Request
request_made state (Name request) = if is_from_outside request.op then Some request else None
request_made state (Deliver number now) = request_brought now (message_at number state.messages)
request_made state (Data node now asked) = None

pub record CallAt : Type 0 where
  pub node : ℕ
  pub now : ℕ
  pub call : NodeCall

abbrev pub call_brought : ℕ → Option Message → Option CallAt
call_brought now (Some (message.Node node asked)) = Some (record { node = node; now = now; call = asked })
call_brought now _ = None

abbrev pub call_of : Cluster → Event → Option CallAt
call_of state (Name request) = None
call_of state (Deliver number now) = call_brought now (message_at number state.messages)
call_of state (Data node now asked) = call_brought now (Some (as_message node asked))

-- ---- the theorem, for one event behind others

-- a request is answered by the next entry, with the verdict of the written rules on the entries before it; an event that makes no request
-- leaves the history as it was
abbrev pub IsRuled : Cluster → Option Request → Happened → Type 0
IsRuled state None what = what.entries ≡ state.entries
IsRuled state (Some request) what = (what.answer ≡ Named (length state.entries + 1)) × (what.entries ≡ entry_of state request ∷ state.entries)

-- a call that presents a token is covered at its node: a copy is sent in the node's own name
abbrev pub IsCovered : Cluster → ℕ → Option DataNode → NodeCall → Type 0
IsCovered state now None asked = ⊥
IsCovered state now (Some node) (Presenting presented asked) =
    IsGranted state (clock_with node now) (asked_by node.id presented asked) asked ⊎ IsForged state presented.token
IsCovered state now (Some node) (Invalidate block stamp) = ⊤
IsCovered state now (Some node) (Keys update) = ⊤

-- where it is served
abbrev pub IsCoveredWhere : Cluster → ℕ → Option DataNode → NodeCall → EventAnswer → Type 0
IsCoveredWhere state now found asked (Called (Ok told)) = IsCovered state now found asked
IsCoveredWhere state now found asked (Called (Err refusal)) = ⊤
IsCoveredWhere state now found asked (Named place) = ⊤
IsCoveredWhere state now found asked (Led result) = ⊤
IsCoveredWhere state now found asked (Lost refusal) = ⊤

abbrev pub IsServedRightly : Cluster → Option CallAt → EventAnswer → Type 0
IsServedRightly state None answer = ⊤
IsServedRightly state (Some asked) answer = IsCoveredWhere state asked.now (entry_at asked.node state.nodes) asked.call answer

pub record IsRightEvent (state : Cluster) (event : Event) : Type 0 where
  pub ruled : IsRuled state (request_made state event) (event_happened state event)
  pub served : IsServedRightly state (call_of state event) (event_happened state event).answer

abbrev pub AllRight : ClusterOpening → List Event → Type 0
AllRight opening [] = ⊤
AllRight opening (event ∷ earlier) = IsRightEvent (after opening earlier) event × AllRight opening earlier
