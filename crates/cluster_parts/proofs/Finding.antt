-- The message of a number stands in the last batch that begins at or below it.
use Rattle.std.proofs.Common.{◌≡◌, ℕ, zero, suc, ◌+◌, ◌-◌, ◌<◌, ◌≤◌, List, [], ◌∷◌, ◌++◌, length, refl, ap, ◌∙◌, Some, None, arith}
use Rattle.std.specs.Prelude.{slice_get}
use Rattle.std.proofs.lemmas.List.{append-nil}
use Rattle.history.specs.declared.entry.HistoryEntry.{HistoryEntry}
use Rattle.node_calls.specs.declared.message.Message.{Message}
use Rattle.cluster_trace.specs.Trace.{message_at}
use Rattle.cluster_parts.specs.Sent.{source_messages, messages_of, AreLaid}
use Rattle.cluster_parts.specs.declared.sent.Batch.{Batch}
use Rattle.cluster_parts.proofs.Gets.{get_left, get_behind}

some_is : {X : Type 0} (x y : X) → Some x ≡ Some y → x ≡ y
some_is x y e = cc

never_some : {X : Type 0} (x : X) → None ≡ Some x → ⊥
never_some x e = cc

-- no batch begins at or below what is before all
begins_behind : (history : List HistoryEntry) (before : ℕ) (batches : List Batch) (count index : ℕ) (batch : Batch) → AreLaid history before batches count → slice_get batches index ≡ Some batch → before < batch.first
begins_behind history before [] count index batch laid h = absurd (never_some batch h)
begins_behind history before (first ∷ batches) count zero batch laid h =
    let e : first ≡ batch = some_is first batch h in
    let f : first.first ≡ batch.first = ap (λ (b : Batch). b.first) e in
    omega (arith, laid.0, f)
begins_behind history before (first ∷ batches) count (suc index) batch laid h =
    omega (arith, begins_behind history (before + length (source_messages history first.source)) batches count index batch laid.2 h)

abbrev EndsAbove : List Batch → ℕ → ℕ → Type 0
EndsAbove batches index number = (next : Batch) → slice_get batches index ≡ Some next → number < next.first

stands : (history : List HistoryEntry) (before : ℕ) (batches : List Batch) (count index number : ℕ) (batch : Batch) → AreLaid history before batches count → slice_get batches index ≡ Some batch
    → batch.first ≤ number → EndsAbove batches (suc index) number
    → slice_get (messages_of history batches) (number - (before + 1)) ≡ slice_get (source_messages history batch.source) (number - batch.first)
stands history before [] count index number batch laid h begun ended = absurd (never_some batch h)
stands history before (first ∷ batches) count zero number batch laid h begun ended =
    let e : first ≡ batch = some_is first batch h in
    let at : first.first ≡ batch.first = ap (λ (b : Batch). b.first) e in
    let own : number - (before + 1) ≡ number - batch.first = omega (arith, laid.0, at) in
    in_first batches (laid.2) ended ∙ ap (λ (b : Batch). slice_get (source_messages history b.source) (number - (before + 1))) e ∙ ap (slice_get (source_messages history batch.source)) own
  where
    in_first : (rest : List Batch) → AreLaid history (before + length (source_messages history first.source)) rest count → EndsAbove (first ∷ rest) (suc zero) number
        → slice_get (source_messages history first.source ++ messages_of history rest) (number - (before + 1)) ≡ slice_get (source_messages history first.source) (number - (before + 1))
    in_first [] laid_rest ended_rest = ap (λ (own : List Message). slice_get own (number - (before + 1))) (append-nil (source_messages history first.source))
    in_first (next ∷ rest) laid_rest ended_rest =
        let below : number < next.first = ended_rest next refl in
        get_left (source_messages history first.source) (messages_of history (next ∷ rest)) (number - (before + 1)) (omega (arith, below, laid_rest.0, begun_first))
      where
        begun_first : before + 1 ≤ number
        begun_first = omega (arith, laid.0, ap (λ (b : Batch). b.first) (some_is first batch h), begun)
stands history before (first ∷ batches) count (suc index) number batch laid h begun ended =
    let here = length (source_messages history first.source) in
    let behind : before + here < batch.first = begins_behind history (before + here) batches count index batch laid.2 h in
    let e : number - (before + 1) - here ≡ number - (before + here + 1) = omega arith in
    get_behind (source_messages history first.source) (messages_of history batches) (number - (before + 1)) (omega (arith, behind, begun))
    ∙ ap (slice_get (messages_of history batches)) e ∙ stands history (before + here) batches count index number batch laid.2 h begun ended

numbered : (messages : List Message) (number : ℕ) → 0 < number → message_at number messages ≡ slice_get messages (number - 1)
numbered messages zero h = absurd (omega arith)
numbered messages (suc before) h = ap (slice_get messages) (omega arith)

pub found : (history : List HistoryEntry) (batches : List Batch) (count index number : ℕ) (batch : Batch) → AreLaid history 0 batches count → slice_get batches index ≡ Some batch
    → batch.first ≤ number → ((next : Batch) → slice_get batches (index + 1) ≡ Some next → number < next.first)
    → message_at number (messages_of history batches) ≡ slice_get (source_messages history batch.source) (number - batch.first)
found history batches count index number batch laid h begun ended =
    let behind : 0 < batch.first = begins_behind history 0 batches count index batch laid h in
    numbered (messages_of history batches) number (omega (arith, behind, begun))
    ∙ stands history 0 batches count index number batch laid h begun (λ next e. ended next (ap (slice_get batches) (omega arith) ∙ e))

nothing_at : (number : ℕ) → message_at number [] ≡ None
nothing_at zero = refl
nothing_at (suc before) = refl

pub not_found : (history : List HistoryEntry) (batches : List Batch) (count number : ℕ) → AreLaid history 0 batches count → ((next : Batch) → slice_get batches 0 ≡ Some next → number < next.first)
    → message_at number (messages_of history batches) ≡ None
not_found history [] count number laid ended = nothing_at number
not_found history (batch ∷ batches) count number laid ended =
    let below : number < batch.first = ended batch refl in
    let e : number ≡ 0 = omega (arith, below, laid.0) in
    ap (λ n. message_at n (messages_of history (batch ∷ batches))) e
