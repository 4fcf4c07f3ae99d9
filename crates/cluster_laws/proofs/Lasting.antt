-- Each grant lasts one lifetime from the entry that made it.
use Rattle.std.proofs.Common.{◌≡◌, ◌+◌, inl, inr, List, [], ◌∷◌, refl, ap, ◌∙◌}
use Rattle.std.specs.List.{AllByRecursion}
use Rattle.grant_ledger.specs.declared.ledger.LedgerRow.{LedgerRow}
use Rattle.history.specs.ClockAndLease.{clock_of}
use Rattle.history.specs.Config as name
use Rattle.history.specs.Grants.{ledger_of, rows_granted}
use Rattle.history.specs.Keys.{ring_of}
use Rattle.history.specs.declared.entry.HistoryEntry.{HistoryEntry}
use Rattle.cluster_trace.proofs.Each.{each_append, each_more}
use Rattle.cluster_trace.proofs.Lifetimes.{kept_lifetime, each_granted}
use Rattle.cluster_laws.specs.Laws.{LastsOneLifetime, LastsFromAny, GrantsLastOneLifetime}

same_lifetime : (opening : name.Opening) (entries : List HistoryEntry) → (ring_of opening entries).lifetime ≡ opening.config.durations.token_lifetime
same_lifetime opening [] = refl
same_lifetime opening (entry ∷ earlier) = kept_lifetime entry.request.op entry.verdict (clock_of (entry ∷ earlier)) (ring_of opening earlier) ∙ same_lifetime opening earlier

abbrev granted_at : name.Opening → HistoryEntry → List HistoryEntry → List LedgerRow
granted_at opening entry earlier = rows_granted entry.place (ring_of opening earlier) (clock_of (entry ∷ earlier)) entry.request.caller entry.request.op entry.verdict

granted_last : (opening : name.Opening) (entry : HistoryEntry) (earlier : List HistoryEntry) → AllByRecursion (LastsOneLifetime opening entry earlier) (granted_at opening entry earlier)
granted_last opening entry earlier =
    each_granted (LastsOneLifetime opening entry earlier) entry.place (ring_of opening earlier) (clock_of (entry ∷ earlier)) entry.request.caller
    (λ own. record { place = refl; expiry = ap (λ lifetime. clock_of (entry ∷ earlier) + lifetime) (same_lifetime opening earlier); serial = refl }) entry.request.op entry.verdict

pub last : GrantsLastOneLifetime
last opening [] = tt
last opening (entry ∷ earlier) =
    each_append (LastsFromAny opening (entry ∷ earlier)) (ledger_of opening earlier) (granted_at opening entry earlier)
    (each_more (LastsFromAny opening earlier) (LastsFromAny opening (entry ∷ earlier)) (λ row. inr) (ledger_of opening earlier) (last opening earlier))
    (each_more (LastsOneLifetime opening entry earlier) (LastsFromAny opening (entry ∷ earlier)) (λ row. inl) (granted_at opening entry earlier) (granted_last opening entry earlier))
