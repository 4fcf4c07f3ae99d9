-- What an operator of a cluster can rely on: who reaches a block, and how long, and that the NameNode's history only grows.
-- (HADOOP-4359: a DataNode takes a token by the keys that the NameNode sends it, and asks nobody.)
use Rattle.std.specs.Prelude.{◌≡◌, ℕ, ◌+◌, ◌<◌, ◌≤◌, true, ◌⊎◌, List, [], ◌∷◌, ◌++◌, Option, Some, None, Ok}
use Rattle.std.specs.Bool.{⊤}
use Rattle.std.specs.List.{AllByRecursion}
use Rattle.permission_bits.specs.Rights.{covers}
use Rattle.block_records.specs.Numbers.{entry_at}
use Rattle.grant_ledger.specs.declared.ledger.LedgerRow.{LedgerRow}
use Rattle.history.specs.ClockAndLease.{clock_of}
use Rattle.history.specs.Config as name
use Rattle.history.specs.Grants.{ledger_of}
use Rattle.history.specs.Keys.{ring_of}
use Rattle.history.specs.declared.entry.HistoryEntry.{HistoryEntry}
use Rattle.call_parts.specs.declared.access_log.AccessRecord.{AccessRecord}
use Rattle.node_calls.specs.declared.call.NodeCall.{NodeCall}
use Rattle.node_calls.specs.declared.call.NodeCall.TheVariants.{Presenting, Invalidate, Keys}
use Rattle.node_calls.specs.declared.call.TokenCall.{TokenCall}
use Rattle.node_calls.specs.declared.message.Message.{Message}
use Rattle.node_calls.specs.declared.message.Message.TheVariants as message
use Rattle.call_parts.specs.declared.presented.Presented.{Presented}
use Rattle.node_calls.specs.declared.reply.NodeReply.{NodeReply}
use Rattle.replicas.specs.Asking.{asked_by, record_of}
use Rattle.replica_steps.specs.ReplicaStep.{held_at}
use Rattle.datanode.specs.NodeStep.{DataNode, node_after, node_answer, clock_with}
use Rattle.cluster_trace.specs.DataCall.{DataCall}
use Rattle.cluster_trace.specs.Trace.{Cluster, ClusterOpening, message_at, event_happened, happens, after}
use Rattle.cluster_trace.specs.Provenance.{IsIn, ledger_in, IsForged, CallAt, call_of}
use Rattle.cluster_trace.specs.Typed.{AreTyped}
use Rattle.cluster_trace.specs.declared.event.Event.{Event}
use Rattle.cluster_trace.specs.declared.event.Event.TheVariants.{Name, Deliver, Data}
use Rattle.cluster_trace.specs.declared.outcome.ClusterRefusal.{ClusterRefusal}
use Rattle.cluster_trace.specs.declared.outcome.EventAnswer.TheVariants.{Called, Lost}

-- ---- forged tokens

abbrev pub PresentsForged : Cluster → NodeCall → Type 0
PresentsForged state (Presenting presented asked) = IsForged state presented.token
PresentsForged state (Invalidate block stamp) = ⊥
PresentsForged state (Keys update) = ⊥

abbrev pub IsForgery : Cluster → Option CallAt → Type 0
IsForgery state None = ⊥
IsForgery state (Some asked) = PresentsForged state asked.call

-- no event presents a forged token
abbrev pub NothingIsForged : ClusterOpening → List Event → Type 0
NothingIsForged opening [] = ⊤
NothingIsForged opening (event ∷ earlier) = (IsForgery (after opening earlier) (call_of (after opening earlier) event) → ⊥) × NothingIsForged opening earlier

-- ---- who reaches a block

-- a call that presents a token and is served is noted down, once
abbrev pub ServedCallsAreNoted : Type 0
ServedCallsAreNoted = (node : DataNode) (now : ℕ) (presented : Presented) (asked : TokenCall) (told : NodeReply) → (node_answer node now (Presenting presented asked)).result ≡ Ok told
    → (node_after node now (Presenting presented asked)).log
    ≡ node.log ++ record_of node.id (clock_with node now) (asked_by node.id presented asked) asked (held_at (asked_by node.id presented asked).block node.blocks) ∷ []

-- what was noted down rests on a grant
pub record RestsOn (row : LedgerRow) (entry : AccessRecord) : Type 0 where
  pub token : row.grant.token ≡ entry.token
  pub user : row.grant.user ≡ entry.caller
  pub block : row.grant.block ≡ entry.block
  pub mode : covers row.grant.modes.0 entry.mode.0 ≡ true
  pub in_time : entry.moment < row.grant.expiry

abbrev pub Rests : List LedgerRow → AccessRecord → Type 0
Rests rows entry = (row : LedgerRow) × IsIn row rows × RestsOn row entry

-- each record in the log of each DataNode
abbrev pub AllRest : List LedgerRow → List (ℕ × DataNode) → Type 0
AllRest rows nodes = AllByRecursion (λ (own : ℕ × DataNode). AllByRecursion (Rests rows) own.1.log) nodes

-- where nothing is forged, each record in each log behind these events rests on a grant
abbrev pub RecordsOf : ClusterOpening → List Event → Type 0
RecordsOf opening events = NothingIsForged opening events → AllRest (ledger_in (after opening events)) (after opening events).nodes

abbrev pub RecordsRest : Type 0
RecordsRest = (opening : ClusterOpening) (events : List Event) → AreTyped opening events → RecordsOf opening events

-- a user was granted something of a block
abbrev pub WasGranted : Cluster → List ℕ → ℕ → Type 0
WasGranted state user block = (row : LedgerRow) × IsIn row (ledger_in state) × (row.grant.user ≡ user) × (row.grant.block ≡ block)

-- whoever was never granted a block has read and written nothing of it anywhere
abbrev pub StrangersReachNothing : Type 0
StrangersReachNothing = (opening : ClusterOpening) (events : List Event) (user : List ℕ) (block id : ℕ) (node : DataNode) (entry : AccessRecord) → AreTyped opening events → NothingIsForged opening events
    → (WasGranted (after opening events) user block → ⊥) → entry_at id (after opening events).nodes ≡ Some node → IsIn entry node.log → entry.caller ≡ user → entry.block ≡ block → ⊥

-- ---- how long

-- a message asks the NameNode something: a DataNode's report, or the end of a recovery; where there is no message, nothing is asked
abbrev pub IsForNameNode : Option Message → Type 0
IsForNameNode None = ⊤
IsForNameNode (Some (message.Node node asked)) = ⊥
IsForNameNode (Some (message.Plan node asked)) = ⊥
IsForNameNode (Some (message.Reported node block stamp bytes)) = ⊤
IsForNameNode (Some (message.CommitRecovery node block stamp bytes nodes)) = ⊤

abbrev pub AsksNameNode : Cluster → Event → Type 0
AsksNameNode state (Name request) = ⊤
AsksNameNode state (Deliver number now) = IsForNameNode (message_at number state.messages)
AsksNameNode state (Data node now asked) = ⊥

-- behind these events requests to the NameNode alone: of callers, and by messages that are delivered to it
abbrev pub AreRequests : ClusterOpening → List Event → List Event → Type 0
AreRequests opening earlier [] = ⊤
AreRequests opening earlier (event ∷ events) = AsksNameNode (after opening (events ++ earlier)) event × AreRequests opening earlier events

-- whatever they change at the NameNode, a client's call is answered by a DataNode as before
abbrev pub GrantsOutliveRights : Type 0
GrantsOutliveRights = (opening : ClusterOpening) (requests earlier : List Event) (node now : ℕ) (asked : DataCall) → AreRequests opening earlier requests
    → (event_happened (after opening (requests ++ earlier)) (Data node now asked)).answer ≡ (event_happened (after opening earlier) (Data node now asked)).answer

-- no call is served by a grant whose expiry has come at the DataNode
abbrev pub GrantsEnd : Type 0
GrantsEnd = (opening : ClusterOpening) (events : List Event) (event : Event) (row : LedgerRow) (asked : CallAt) (presented : Presented) (call : TokenCall) (node : DataNode) (told : NodeReply)
    → AreTyped opening (event ∷ events) → call_of (after opening events) event ≡ Some asked → asked.call ≡ Presenting presented call → entry_at asked.node (after opening events).nodes ≡ Some node
    → IsIn row (ledger_in (after opening events)) → row.grant.token ≡ presented.token → row.grant.expiry ≤ clock_with node asked.now
    → (event_happened (after opening events) event).answer ≡ Called (Ok told) → ⊥

-- what a history's last entry granted expires one token lifetime after the clock at it, and is issued under the key that is the current one there
pub record LastsOneLifetime (opening : name.Opening) (entry : HistoryEntry) (earlier : List HistoryEntry) (row : LedgerRow) : Type 0 where
  pub place : row.place ≡ entry.place
  pub expiry : row.grant.expiry ≡ clock_of (entry ∷ earlier) + opening.config.durations.token_lifetime
  pub serial : row.grant.serial ≡ (ring_of opening earlier).serial

abbrev pub LastsFromAny : name.Opening → List HistoryEntry → LedgerRow → Type 0
LastsFromAny opening [] row = ⊥
LastsFromAny opening (entry ∷ earlier) row = LastsOneLifetime opening entry earlier row ⊎ LastsFromAny opening earlier row

-- each token that was ever granted
abbrev pub GrantsLastOneLifetime : Type 0
GrantsLastOneLifetime = (opening : name.Opening) (entries : List HistoryEntry) → AllByRecursion (LastsFromAny opening entries) (ledger_of opening entries)

-- ---- what stays

-- no entry goes or changes by what happens later: the newest entries stand first, so those that come stand before those that were there
abbrev pub HistoriesOnlyGrow : Type 0
HistoriesOnlyGrow = (opening : ClusterOpening) (later earlier : List Event) → (more : List HistoryEntry) × ((after opening (later ++ earlier)).entries ≡ more ++ (after opening earlier).entries)

-- history, DataNodes, plans and messages are as they were
abbrev pub LostEventsChangeNothing : Type 0
LostEventsChangeNothing = (state : Cluster) (event : Event) (refusal : ClusterRefusal) → (event_happened state event).answer ≡ Lost refusal → (happens state event ≡ state) × ((event_happened state event).sent ≡ [])
