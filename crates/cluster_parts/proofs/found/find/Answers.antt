use Rattle.std.proofs.Common.{◌≡◌, ℕ, ◌+◌, ◌-◌, ◌<◌, ◌≤◌, List, length, get_or, refl, sym, ap, ◌∙◌, Some, arith}
use Rattle.std.specs.Prelude.{slice_get}
use Rattle.std.proofs.lemmas.Option.{slice_get_read}
use Rattle.history.specs.declared.entry.HistoryEntry.{HistoryEntry}
use Rattle.cluster_trace.specs.Trace.{message_at}
use Rattle.cluster_parts.specs.Sent.{source_messages, messages_of, AreLaid}
use Rattle.cluster_parts.specs.declared.sent.Batch.{Batch}
use Rattle.cluster_parts.specs.declared.sent.Source.{Source}
use Rattle.cluster_parts.proofs.Finding.{found, not_found}
use Rattle.cluster_parts.proofs.found.find.Goals as goal

abbrev Below : List Batch → ℕ → ℕ → Type 0
Below batches begun number = (index : ℕ) (batch : Batch) → begun ≡ index + 1 → slice_get batches index ≡ Some batch → batch.first ≤ number

abbrev Above : List Batch → ℕ → ℕ → Type 0
Above batches begun number = (batch : Batch) → slice_get batches begun ≡ Some batch → number < batch.first

module _ (batches seen : List Batch) (begun number : ℕ) (batch : Batch) (is : seen ≡ batches) (some : begun ≡ 0 → ⊥) (within : begun ≤ length seen) (own : batch ≡ get_or batches (begun - 1) batch) where
  at_index : slice_get batches (begun - 1) ≡ Some batch
  at_index = slice_get_read batches (length batches) (begun - 1) batch refl (omega (arith, ap length is)) own

  begins_below : Below seen begun number → batch.first ≤ number
  begins_below below = below (begun - 1) batch (omega arith) (ap (λ (l : List Batch). slice_get l (begun - 1)) is ∙ at_index)

  message_found : (history : List HistoryEntry) (count : ℕ) (source : Source) → AreLaid history 0 batches count → Below seen begun number → Above seen begun number → batch.source ≡ source
      → slice_get (source_messages history source) (number - batch.first) ≡ message_at number (messages_of history batches)
  message_found history count source laid below above e =
      ap (λ s. slice_get (source_messages history s) (number - batch.first)) (sym e)
      ∙ sym (found history batches count (begun - 1) number batch laid at_index (begins_below below)
      (λ next h. above next (ap (λ (l : List Batch). slice_get l begun) is ∙ ap (slice_get batches) (omega arith) ∙ h)))

pub returns-then-begun-eq0 : goal.returns-then-begun-eq0
returns-then-begun-eq0 c =
    let at : c.begun_near-begun.result ≡ 0 = c.if-begun-eq0.true in
    sym (not_found c.args.history.now c.args.sent.now.batches.items c.args.sent.now.count c.args.number c.requires
    (λ next h. c.begun_near-begun.ensures.above next (ap (λ (l : List Batch). slice_get l c.begun_near-begun.result) c.deref.ensures.value ∙ ap (slice_get c.args.sent.now.batches.items) at ∙ h)))

pub overflow_sub-index : goal.overflow_sub-index
overflow_sub-index c =
    begins_below c.args.sent.now.batches.items c.deref.result.now c.begun_near-begun.result c.args.number c.index-batch.result.now c.deref.ensures.value c.if-begun-eq0.false
    c.begun_near-begun.ensures.within c.index-batch.ensures c.begun_near-begun.ensures.below

pub returns-in-Entry : goal.returns-in-Entry
returns-in-Entry c =
    c.history_message.ensures
    ∙ message_found c.args.sent.now.batches.items c.deref.result.now c.begun_near-begun.result c.args.number c.index-batch.result.now c.deref.ensures.value c.if-begun-eq0.false
    c.begun_near-begun.ensures.within c.index-batch.ensures c.args.history.now c.args.sent.now.count _ c.requires c.begun_near-begun.ensures.below c.begun_near-begun.ensures.above c.in-Entry.is

pub returns-in-Own : goal.returns-in-Own
returns-in-Own c =
    c.own_message.ensures
    ∙ message_found c.args.sent.now.batches.items c.deref.result.now c.begun_near-begun.result c.args.number c.index-batch.result.now c.deref.ensures.value c.if-begun-eq0.false
    c.begun_near-begun.ensures.within c.index-batch.ensures c.args.history.now c.args.sent.now.count _ c.requires c.begun_near-begun.ensures.below c.begun_near-begun.ensures.above c.in-Own.is
