-- What one more entry leaves of a cluster.
use Rattle.std.proofs.Common.{◌≡◌, ℕ, ◌+◌, List, [], ◌∷◌, ◌++◌, length, reverse, drop, sym, ap, ◌∙◌, subst, arith}
use Rattle.std.specs.Prelude.{slice_get, IfSome}
use Rattle.std.specs.List.{AllByRecursion}
use Rattle.std.proofs.lemmas.List.{reverse-append, length-reverse, length-append}
use Rattle.std.proofs.Math.Seq.{drop-append_seam}
use Rattle.hdfs_types.specs.declared.op.Request.{Request}
use Rattle.grant_ledger.specs.declared.ledger.LedgerRow.{LedgerRow}
use Rattle.history.specs.ClockAndLease.{clock_of}
use Rattle.history.specs.Grants.{ledger_of, rows_granted}
use Rattle.history.specs.Keys.{ring_of}
use Rattle.history.specs.declared.entry.HistoryEntry.{HistoryEntry}
use Rattle.name_core.specs.NameCore as core
use Rattle.node_calls.specs.declared.message.Message.{Message}
use Rattle.datanode.specs.NodeStep.{DataNode}
use Rattle.block_recovery.specs.Plans.{PlanTable}
use Rattle.cluster_trace.specs.Trace.{Cluster, entry_messages, request_named, left_by, outcome_of}
use Rattle.cluster_trace.specs.Typed.{GrantFits}
use Rattle.cluster_trace.specs.declared.outcome.EventAnswer.TheVariants.{Named}
use Rattle.cluster_trace.proofs.Each.{each_append}
use Rattle.cluster_parts.specs.Sent.{source_messages, messages_of, IsWithin, AreLaid}
use Rattle.cluster_parts.specs.declared.sent.Batch.{Batch}
use Rattle.cluster_parts.specs.declared.sent.Source.TheVariants.{Entry}
use Rattle.cluster_parts.proofs.Laying.{laid_more, messages_more, newest, count_is}

abbrev pub state_with : core.NameCore → List (ℕ × DataNode) → List (ℕ × PlanTable) → List Batch → Cluster
state_with own nodes plans batches = record { opening = own.opening; entries = own.entries; nodes = nodes; plans = plans; messages = messages_of (reverse own.entries) batches }

-- a batch of the messages of an entry was noted behind the others
pub record IsNoted (index count : ℕ) (batches added : List Batch) (before after : ℕ) : Type 0 where
  pub messages : (history : List HistoryEntry) → length (source_messages history (Entry index)) ≡ count → messages_of history added ≡ messages_of history batches ++ source_messages history (Entry index)
  pub laid : (history : List HistoryEntry) → AreLaid history 0 batches before → IsWithin history (Entry index) → length (source_messages history (Entry index)) ≡ count → AreLaid history 0 added after

module _ (entries : List HistoryEntry) (entry : HistoryEntry) (batches added : List Batch) (before after count index : ℕ) (laid : AreLaid (reverse entries) 0 batches before)
    (at : index ≡ length entries) (many : count ≡ length (entry_messages entry)) (noted : IsNoted index count batches added before after) where
  grown : reverse (entry ∷ entries) ≡ reverse entries ++ entry ∷ []
  grown = reverse-append (entry ∷ []) entries

  own_messages : source_messages (reverse entries ++ entry ∷ []) (Entry index) ≡ entry_messages entry
  own_messages = ap (λ (n : ℕ). source_messages (reverse entries ++ entry ∷ []) (Entry n)) (at ∙ sym (length-reverse entries)) ∙ newest (reverse entries) entry

  within : IsWithin (reverse entries ++ entry ∷ []) (Entry index)
  within = omega (arith, length-append (reverse entries) (entry ∷ []), length-reverse entries, at)

  pub named_laid : AreLaid (reverse (entry ∷ entries)) 0 added after
  named_laid =
      subst (λ history. AreLaid history 0 added after) (sym grown)
      (noted.laid (reverse entries ++ entry ∷ []) (laid_more (reverse entries) (entry ∷ []) 0 batches before laid) within (ap length own_messages ∙ sym many))

  pub named_messages : messages_of (reverse (entry ∷ entries)) added ≡ messages_of (reverse entries) batches ++ entry_messages entry
  named_messages =
      ap (λ history. messages_of history added) grown
      ∙ noted.messages (reverse entries ++ entry ∷ []) (ap length own_messages ∙ sym many)
      ∙ ap (λ (own : List Message). own ++ source_messages (reverse entries ++ entry ∷ []) (Entry index)) (messages_more (reverse entries) (entry ∷ []) 0 batches before laid)
      ∙ ap (λ (own : List Message). messages_of (reverse entries) batches ++ own) own_messages

-- so many messages there are
pub sent_count : (own : core.NameCore) (batches : List Batch) (count : ℕ) → AreLaid (reverse own.entries) 0 batches count → count ≡ length (messages_of (reverse own.entries) batches)
sent_count own batches count laid = omega (arith, count_is (reverse own.entries) 0 batches count laid)

-- ---- a request

pub record IsNamed (own new : core.NameCore) (nodes : List (ℕ × DataNode)) (plans : List (ℕ × PlanTable)) (batches added : List Batch) (before after count : ℕ) (request : Request) : Type 0 where
  pub laid : AreLaid (reverse new.entries) 0 added after
  pub state : state_with new nodes plans added ≡ left_by (state_with own nodes plans batches) (request_named (state_with own nodes plans batches) request)
  pub outcome : (place first : ℕ) → place ≡ length new.entries → first ≡ before + 1
      → record { answer = Named place; first = first; count = count } ≡ outcome_of (state_with own nodes plans batches) (request_named (state_with own nodes plans batches) request)

abbrev next : core.NameCore → Request → HistoryEntry
next own request = core.entry_for own 0 (length own.entries) request

named_done : (own : core.NameCore) (nodes : List (ℕ × DataNode)) (plans : List (ℕ × PlanTable)) (batches added : List Batch) (before after count index : ℕ) (request : Request)
    → AreLaid (reverse own.entries) 0 batches before → index ≡ length own.entries → count ≡ length (entry_messages (next own request)) → IsNoted index count batches added before after
    → IsNamed own (core.with_next_entry own 0 (length own.entries) request) nodes plans batches added before after count request
named_done own nodes plans batches added before after count index request laid at many noted = record {
  laid = named_laid own.entries (next own request) batches added before after count index laid at many noted;
  state = ap (λ (messages : List Message). record { opening = own.opening; entries = next own request ∷ own.entries; nodes = nodes; plans = plans; messages = messages })
      (named_messages own.entries (next own request) batches added before after count index laid at many noted);
  outcome = λ place first is first_is.
      ap (λ (n : ℕ). record { answer = Named n; first = first; count = count }) (is ∙ suc_is own.entries)
      ∙ ap (λ (n : ℕ). record { answer = Named (length own.entries + 1); first = n; count = count }) (first_is ∙ ap (λ (n : ℕ). n + 1) (sent_count own batches before laid))
      ∙ ap (λ (n : ℕ). record { answer = Named (length own.entries + 1); first = length (messages_of (reverse own.entries) batches) + 1; count = n }) many;
}
  where
    suc_is : (entries : List HistoryEntry) → length (next own request ∷ entries) ≡ length entries + 1
    suc_is entries = omega arith

pub is_named : (own new : core.NameCore) (nodes : List (ℕ × DataNode)) (plans : List (ℕ × PlanTable)) (batches added : List Batch) (before after count index : ℕ) (request : Request)
    → new ≡ core.with_next_entry own 0 index request → AreLaid (reverse own.entries) 0 batches before → index ≡ length own.entries
    → IfSome (slice_get new.entries 0) (λ entry. count ≡ length (entry_messages entry)) → IsNoted index count batches added before after
    → IsNamed own new nodes plans batches added before after count request
is_named own new nodes plans batches added before after count index request is laid at many noted =
    let stepped : new ≡ core.with_next_entry own 0 (length own.entries) request = is ∙ ap (λ (n : ℕ). core.with_next_entry own 0 n request) at in
    let last : IfSome (slice_get (core.with_next_entry own 0 (length own.entries) request).entries 0) (λ entry. count ≡ length (entry_messages entry)) =
    subst (λ (own : core.NameCore). IfSome (slice_get own.entries 0) (λ entry. count ≡ length (entry_messages entry))) stepped many in
    subst (λ (left : core.NameCore). IsNamed own left nodes plans batches added before after count request) (sym stepped) (named_done own nodes plans batches added before after count index request laid at last noted)

-- ---- grants

abbrev RowFits : LedgerRow → Type 0
RowFits row = GrantFits row.grant

abbrev more_granted : core.NameCore → HistoryEntry → List LedgerRow
more_granted own entry = rows_granted entry.place (ring_of own.opening own.entries) (clock_of (entry ∷ own.entries)) entry.request.caller entry.request.op entry.verdict

-- the rows that came with the entry fit, and so do those before
pub grants_fit : (own new : core.NameCore) (rows : List LedgerRow) (index granted : ℕ) (request : Request) → new ≡ core.with_next_entry own 0 index request → granted ≡ length (ledger_of own.opening own.entries)
    → rows ≡ ledger_of new.opening new.entries → AllByRecursion (λ (row : LedgerRow). GrantFits row.grant) (drop granted rows)
    → AllByRecursion (λ (row : LedgerRow). GrantFits row.grant) (ledger_of own.opening own.entries) → AllByRecursion (λ (row : LedgerRow). GrantFits row.grant) (ledger_of new.opening new.entries)
grants_fit own new rows index granted request is at all fit old =
    let entry : HistoryEntry = core.entry_for own 0 index request in
    let behind : drop granted rows ≡ more_granted own entry =
    ap (λ (n : ℕ). drop n rows) at
    ∙ ap (drop (length (ledger_of own.opening own.entries))) (all ∙ ap (λ (left : core.NameCore). ledger_of left.opening left.entries) is)
    ∙ drop-append_seam (ledger_of own.opening own.entries) (more_granted own entry) in
    subst (λ (left : core.NameCore). AllByRecursion RowFits (ledger_of left.opening left.entries)) (sym is)
    (each_append RowFits (ledger_of own.opening own.entries) (more_granted own entry) old (subst (AllByRecursion RowFits) behind fit))

pub noted_behind : (index count : ℕ) (batches roomy added : List Batch) (before seen after : ℕ) → roomy ≡ batches → seen ≡ before → IsNoted index count roomy added seen after → IsNoted index count batches added before after
noted_behind index count batches roomy added before seen after same_batches same_count noted = record {
  messages = λ history long. noted.messages history long ∙ ap (λ (own : List Batch). messages_of history own ++ source_messages history (Entry index)) same_batches;
  laid = λ history laid within long. noted.laid history (subst (λ (own : List Batch). AreLaid history 0 own seen) (sym same_batches) (subst (λ (n : ℕ). AreLaid history 0 batches n) (sym same_count) laid)) within long;
}
