-- How the messages are kept: in batches, each of one event. A batch is the commands of an entry of the NameNode's history, which stay
-- there, or messages of its own. The history has the oldest entry first here.
use Rattle.std.specs.Prelude.{◌≡◌, ℕ, ◌+◌, ◌<◌, List, [], ◌∷◌, length, flat_map, Option, Some, None, slice_get}
use Rattle.std.specs.Bool.{⊤}
use Rattle.history.specs.declared.entry.HistoryEntry.{HistoryEntry}
use Rattle.node_calls.specs.declared.message.Message.{Message}
use Rattle.cluster_trace.specs.Trace.{entry_messages}
use Rattle.cluster_parts.specs.declared.sent.Batch.{Batch}
use Rattle.cluster_parts.specs.declared.sent.Source.{Source}
use Rattle.cluster_parts.specs.declared.sent.Source.TheVariants.{Entry, Own}

abbrev pub messages_at : Option HistoryEntry → List Message
messages_at None = []
messages_at (Some entry) = entry_messages entry

abbrev pub source_messages : List HistoryEntry → Source → List Message
source_messages history (Entry index) = messages_at (slice_get history index)
source_messages history (Own messages) = messages

abbrev pub messages_of : List HistoryEntry → List Batch → List Message
messages_of history batches = flat_map (λ (batch : Batch). source_messages history batch.source) batches

-- the entry stands in the history
abbrev pub IsWithin : List HistoryEntry → Source → Type 0
IsWithin history (Entry index) = index < length history
IsWithin history (Own messages) = ⊤

-- behind so many messages, each batch says the number of its first, and so many there are in the end
abbrev pub AreLaid : List HistoryEntry → ℕ → List Batch → ℕ → Type 0
AreLaid history before [] count = before ≡ count
AreLaid history before (batch ∷ batches) count =
    (batch.first ≡ before + 1) × IsWithin history batch.source × AreLaid history (before + length (source_messages history batch.source)) batches count
