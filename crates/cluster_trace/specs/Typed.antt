-- What the values of a trace have by their types: numbers fit, users have names, and tokens are bytes.
use Rattle.std.specs.Prelude.{ℕ, ◌<◌, ◌^◌, List, [], ◌∷◌, Option, Some, None, slice_index}
use Rattle.std.specs.Bool.{⊤}
use Rattle.std.specs.List.{AllByRecursion}
use Rattle.hdfs_values.specs.Who.{IsWho}
use Rattle.block_tokens.specs.declared.grant.Grant.{Grant}
use Rattle.grant_ledger.specs.declared.ledger.LedgerRow.{LedgerRow}
use Rattle.node_calls.specs.declared.call.NodeCall.{NodeCall}
use Rattle.node_calls.specs.declared.call.NodeCall.TheVariants.{Presenting, Invalidate, Keys}
use Rattle.cluster_trace.specs.Trace.{Cluster, ClusterOpening, after}
use Rattle.cluster_trace.specs.Provenance.{ledger_in, CallAt, call_of}
use Rattle.cluster_trace.specs.declared.event.Event.{Event}

-- the numbers of a grant fit its token, and its user is named
pub record GrantFits (grant : Grant) : Type 0 where
  pub expiry : grant.expiry < 2 ^ 64
  pub serial : grant.serial < 2 ^ 32
  pub block : grant.block < 2 ^ 64
  pub user : IsWho grant.user

abbrev pub GrantsFit : Cluster → Type 0
GrantsFit state = AllByRecursion (λ (row : LedgerRow). GrantFits row.grant) (ledger_in state)

-- what is presented as a token
abbrev pub PresentsBytes : NodeCall → Type 0
PresentsBytes (Presenting presented asked) = (i : ℕ) → slice_index presented.token i < 256
PresentsBytes (Invalidate block stamp) = ⊤
PresentsBytes (Keys update) = ⊤

abbrev pub CallFits : Option CallAt → Type 0
CallFits None = ⊤
CallFits (Some asked) = PresentsBytes asked.call

-- at each event
pub record EventFits (state : Cluster) (event : Event) : Type 0 where
  pub grants : GrantsFit state
  pub call : CallFits (call_of state event)

abbrev pub AreTyped : ClusterOpening → List Event → Type 0
AreTyped opening [] = ⊤
AreTyped opening (event ∷ earlier) = EventFits (after opening earlier) event × AreTyped opening earlier
