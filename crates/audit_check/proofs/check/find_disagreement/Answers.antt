use Rattle.std.proofs.Common.{◌∙◌, ℕ, List, length, sym, ap, subst}
use Rattle.std.specs.Result.{IfOk}
use Rattle.history.specs.declared.entry.HistoryEntry.{HistoryEntry}
use Rattle.history_replay.specs.Agreement.{Agrees, Finds}
use Rattle.history_replay.specs.Looking.{Replayed}
use Rattle.audit_check.specs.Checking.{claims_of, history_opening, Standing}
use Rattle.audit_check.proofs.Finding.{none_found, part_found, last_searched}
use Rattle.audit_check.proofs.check.find_disagreement.Goals as goal

pub returns-then-is_some : goal.returns-then-is_some
returns-then-is_some c =
    part_found (Standing c.args.opening.now.entries.items c.args.history.now c.args.passes.now) (Agrees (claims_of c.args.opening.now c.args.history.now c.args.passes.now)) c.find_in_place-found.result
    (subst (λ (begun : List HistoryEntry). Finds (Standing begun c.args.history.now c.args.passes.now) c.find_in_place-found.result) c.as_slice-begun.ensures.value c.find_in_place-found.ensures)
    (sym c.is_some.ensures ∙ c.if-is_some.true) (λ pass index all. record { placed = all.placed; received = all.received; opened = all.opened })

pub returns : goal.returns
returns c =
    let place : (pass index : ℕ) → Standing c.args.opening.now.entries.items c.args.history.now c.args.passes.now pass index =
    none_found (Standing c.args.opening.now.entries.items c.args.history.now c.args.passes.now) c.find_in_place-found.result
    (subst (λ (begun : List HistoryEntry). Finds (Standing begun c.args.history.now c.args.passes.now) c.find_in_place-found.result) c.as_slice-begun.ensures.value c.find_in_place-found.ensures)
    (sym c.is_some.ensures ∙ c.if-is_some.false) in
    last_searched (Replayed (history_opening c.args.opening.now) (length c.args.opening.now.entries.items) c.args.history.now c.args.passes.now) (Agrees (claims_of c.args.opening.now c.args.history.now c.args.passes.now))
    c.find_in_replay.result
    (subst (λ (count : ℕ). IfOk c.find_in_replay.result (Finds (Replayed (history_opening c.args.opening.now) count c.args.history.now c.args.passes.now))) (ap length c.as_slice-begun.ensures.value) c.find_in_replay.ensures)
    (λ pass index all. record { legal = all.legal; told = all.told })
    (λ pass index replayed. record {
      placed = (place pass index).placed;
      told = replayed.told;
      received = (place pass index).received;
      legal = replayed.legal;
      opened = (place pass index).opened;
    })
