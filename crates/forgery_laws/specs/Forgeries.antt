-- Where forged tokens could come from: from what clients present themselves, and from no message.
use Rattle.std.specs.Prelude.{◌≡◌, ℕ, List, [], ◌∷◌}
use Rattle.std.specs.Bool.{⊤}
use Rattle.grant_ledger.specs.declared.ledger.LedgerRow.{LedgerRow}
use Rattle.history.specs.Grants.{ledger_of}
use Rattle.cluster_trace.specs.DataCall.{DataCall, BeginWrite, Packet, Finalize, Read, Decide, Commit}
use Rattle.cluster_trace.specs.Trace.{Cluster, ClusterOpening, after}
use Rattle.cluster_trace.specs.Provenance.{IsIn}
use Rattle.cluster_trace.specs.declared.event.Event.{Event}
use Rattle.cluster_trace.specs.declared.event.Event.TheVariants.{Name, Deliver, Data}
use Rattle.cluster_laws.specs.Laws.{NothingIsForged}
use Rattle.cluster_runs.specs.Output.{after_lines}

-- these bytes are those of a token in one of the rows
abbrev pub IsTokenOf : List LedgerRow → List ℕ → Type 0
IsTokenOf rows token = (row : LedgerRow) × IsIn row rows × (row.grant.token ≡ token)

-- the NameNode granted the token that a client presents; a node that goes on with a recovery presents none
abbrev pub PresentsGrantedToken : List LedgerRow → DataCall → Type 0
PresentsGrantedToken rows (BeginWrite presented next) = IsTokenOf rows presented.token
PresentsGrantedToken rows (Packet presented offset bytes next) = IsTokenOf rows presented.token
PresentsGrantedToken rows (Finalize presented count next) = IsTokenOf rows presented.token
PresentsGrantedToken rows (Read presented offset count) = IsTokenOf rows presented.token
PresentsGrantedToken rows (Decide block stamp) = ⊤
PresentsGrantedToken rows (Commit block stamp) = ⊤

-- what was granted so far
abbrev pub granted_in : Cluster → List LedgerRow
granted_in state = ledger_of state.opening state.entries

-- what a client presents himself is among them
abbrev pub PresentsOf : List LedgerRow → Event → Type 0
PresentsOf rows (Name request) = ⊤
PresentsOf rows (Deliver number now) = ⊤
PresentsOf rows (Data node now asked) = PresentsGrantedToken rows asked

-- at each event
abbrev pub AllPresentGranted : ClusterOpening → List Event → Type 0
AllPresentGranted opening [] = ⊤
AllPresentGranted opening (event ∷ earlier) = PresentsOf (granted_in (after opening earlier)) event × AllPresentGranted opening earlier

-- over every list of events
abbrev pub ClientsAloneForge : Type 0
ClientsAloneForge = (opening : ClusterOpening) (events : List Event) → AllPresentGranted opening events → NothingIsForged opening events

-- no line of a script presents a forged token, and no message brings one: a line names a token by its row in the ledger
abbrev pub ScriptsForgeNothing : Type 0
ScriptsForgeNothing = (lines : List (List ℕ)) → NothingIsForged (after_lines lines).past.opening (after_lines lines).past.events
