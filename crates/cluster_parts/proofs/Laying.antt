-- The batches of messages stay as they are laid when the history grows, and when a batch is added.
use Rattle.std.proofs.Common.{◌≡◌, ℕ, ◌+◌, List, [], ◌∷◌, ◌++◌, length, refl, sym, ap, ◌∙◌, subst, arith}
use Rattle.std.proofs.lemmas.List.{length-append, append-nil, append_assoc}
use Rattle.history.specs.declared.entry.HistoryEntry.{HistoryEntry}
use Rattle.node_calls.specs.declared.message.Message.{Message}
use Rattle.cluster_trace.specs.Trace.{entry_messages}
use Rattle.cluster_parts.specs.Sent.{messages_at, source_messages, messages_of, IsWithin, AreLaid}
use Rattle.cluster_parts.specs.declared.sent.Batch.{Batch}
use Rattle.cluster_parts.specs.declared.sent.Source.{Source}
use Rattle.cluster_parts.specs.declared.sent.Source.TheVariants.{Entry, Own}
use Rattle.cluster_parts.proofs.Gets.{get_left, get_last}

-- ---- a history that grows

same_source : (history more : List HistoryEntry) (source : Source) → IsWithin history source → source_messages (history ++ more) source ≡ source_messages history source
same_source history more (Entry index) within = ap messages_at (get_left history more index within)
same_source history more (Own messages) within = refl

within_more : (history more : List HistoryEntry) (source : Source) → IsWithin history source → IsWithin (history ++ more) source
within_more history more (Entry index) within = omega (arith, length-append history more, within)
within_more history more (Own messages) within = tt

pub laid_more : (history more : List HistoryEntry) (before : ℕ) (batches : List Batch) (count : ℕ) → AreLaid history before batches count → AreLaid (history ++ more) before batches count
laid_more history more before [] count laid = laid
laid_more history more before (batch ∷ batches) count laid = (
  laid.0,
  within_more history more batch.source laid.1,
  subst (λ n. AreLaid (history ++ more) n batches count) (ap (λ (own : List Message). before + length own) (sym (same_source history more batch.source laid.1)))
      (laid_more history more (before + length (source_messages history batch.source)) batches count laid.2),
)

pub messages_more : (history more : List HistoryEntry) (before : ℕ) (batches : List Batch) (count : ℕ) → AreLaid history before batches count → messages_of (history ++ more) batches ≡ messages_of history batches
messages_more history more before [] count laid = refl
messages_more history more before (batch ∷ batches) count laid =
    ap (λ (own : List Message). own ++ messages_of (history ++ more) batches) (same_source history more batch.source laid.1)
    ∙ ap (λ (rest : List Message). source_messages history batch.source ++ rest) (messages_more history more (before + length (source_messages history batch.source)) batches count laid.2)

-- the messages of the newest entry
pub newest : (history : List HistoryEntry) (entry : HistoryEntry) → source_messages (history ++ entry ∷ []) (Entry (length history)) ≡ entry_messages entry
newest history entry = ap messages_at (get_last history entry)

-- ---- one batch more

abbrev pub batch_of : ℕ → Source → Batch
batch_of first source = record { first = first; source = source }

pub laid_added : (history : List HistoryEntry) (before : ℕ) (batches : List Batch) (count first more : ℕ) (source : Source) → AreLaid history before batches count → first ≡ count + 1
    → IsWithin history source → length (source_messages history source) ≡ more → AreLaid history before (batches ++ batch_of first source ∷ []) (count + more)
laid_added history before [] count first more source laid is within long = (is ∙ ap (λ n. n + 1) (sym laid), within, omega (arith, laid, long))
laid_added history before (batch ∷ batches) count first more source laid is within long =
    (laid.0, laid.1, laid_added history (before + length (source_messages history batch.source)) batches count first more source laid.2 is within long)

pub messages_added : (history : List HistoryEntry) (batches : List Batch) (first : ℕ) (source : Source) → messages_of history (batches ++ batch_of first source ∷ []) ≡ messages_of history batches ++ source_messages history source
messages_added history [] first source = append-nil (source_messages history source)
messages_added history (batch ∷ batches) first source =
    ap (λ (rest : List Message). source_messages history batch.source ++ rest) (messages_added history batches first source)
    ∙ sym (append_assoc (source_messages history batch.source) (messages_of history batches) (source_messages history source))

-- so many messages there are
pub count_is : (history : List HistoryEntry) (before : ℕ) (batches : List Batch) (count : ℕ) → AreLaid history before batches count → before + length (messages_of history batches) ≡ count
count_is history before [] count laid = omega (arith, laid)
count_is history before (batch ∷ batches) count laid =
    omega (arith, length-append (source_messages history batch.source) (messages_of history batches), count_is history (before + length (source_messages history batch.source)) batches count laid.2)
