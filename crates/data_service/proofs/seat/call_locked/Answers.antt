use Rattle.std.proofs.Common.{rules, ◌≡◌, ◌∙◌, ℕ, [], List, ◌∷◌, ◌++◌, length, slice_get, sym, ap, subst}
use Rattle.call_parts.specs.declared.access_log.AccessRecord.{AccessRecord}
use Rattle.datanode.specs.Kept.{AreCovered}
use Rattle.datanode.specs.NodeStep.{DataNode, node_after}
use Rattle.datanode.specs.declared.answered.Answered.{Answered}
use Rattle.data_service.specs.Parts.{parts_in}
use Rattle.data_service.specs.Seats.{Keeps, KeepsNew, Seat}
use Rattle.data_service.proofs.Noting.{has_parts, keeps, is_found, is_same, keeps_none, lacks_parts}
use Rattle.data_service.proofs.seat.call_locked.Goals as goal
use Rattle.data_service.proofs.seat.call_locked.Goals.{in-Some, in_default}

pub new_receipt-requires : goal.new_receipt-requires
new_receipt-requires c = λ entry own at is.
    (is_found c.args.node.now c.args.moment c.args.call.now c.call.new.self.log (ap (λ (node : DataNode). node.log) c.in_ok-answered.ensures.ok) entry own
    (ap (λ (log : List AccessRecord). slice_get log (length c.args.node.now.log)) (sym c.records.ensures.log)
    ∙ (ap (λ (log : List AccessRecord). slice_get c.records.result.now (length log)) (sym c.records-number.ensures.log) ∙ at))
    (sym (c.in_ok-parts.ensures ∙ ap (λ (id : ℕ). parts_in id c.args.call.now) c.id.ensures) ∙ is)).0

pub returns-clause-seat : goal.returns-clause-seat
returns-clause-seat c =
    let node = c.args.node.now in
    let new_log = c.call.new.self.log in
    let after : new_log ≡ (node_after node c.args.moment c.args.call.now).log = ap (λ (node : DataNode). node.log) c.in_ok-answered.ensures.ok in
    let looked_up : slice_get new_log (length node.log) ≡ slice_get c.records.result.now (length c.records-number.result.now) =
    ap (λ (log : List AccessRecord). slice_get log (length node.log)) (sym c.records.ensures.log)
    ∙ ap (λ (log : List AccessRecord). slice_get c.records.result.now (length log)) (sym c.records-number.ensures.log) in
    let parts_are : c.in_ok-parts.parts ≡ parts_in node.id c.args.call.now = c.in_ok-parts.ensures ∙ ap (λ (id : ℕ). parts_in id c.args.call.now) c.id.ensures in
    elim c.match-new_receipt.branch [
      | in-Some w ↦ (
          let some = w.in-Some.ensures.some in
          let receipt = w.in-Some.receipt in
          let own = has_parts c.in_ok-parts.parts some.2 in
          let found = is_found node c.args.moment c.args.call.now new_log after receipt.entry own.0 (looked_up ∙ some.1) (sym parts_are ∙ own.1) in
          let seat : c.match-new_receipt.seat ≡ c.args.seat.now ++ receipt ∷ [] = search rules in
          let number : receipt.number ≡ length node.log = some.0 ∙ ap length c.records-number.ensures.log in
          (receipt.entry ∷ [], found.1, seat ∙ ap (λ (number : ℕ). c.args.seat.now ++ record { number = number; entry = receipt.entry } ∷ []) number))
      | in_default w ↦ (
          let seat : c.match-new_receipt.seat ≡ c.args.seat.now = search rules in
          subst (λ (new : Seat). KeepsNew node.log new_log c.args.seat.now new) (sym seat)
          (keeps_none node c.args.moment c.args.call.now new_log after c.args.seat.now
          (is_same node c.args.moment c.args.call.now new_log after
          (lacks_parts new_log node c.args.call.now c.records.result.now c.records-number.result.now c.in_ok-parts.parts looked_up parts_are w.in_default.ensures.none))))
    ]

pub returns-clause-keeps : goal.returns-clause-keeps
returns-clause-keeps c =
    let node = c.args.node.now in
    let asked = c.args.call.now in
    let after : c.call.new.self.log ≡ (node_after node c.args.moment asked).log = ap (λ (node : DataNode). node.log) c.in_ok-answered.ensures.ok in
    subst (λ (answered : Answered). Keeps c.args.moment asked answered.result c.args.seat.now c.match-new_receipt.seat) (sym c.in_ok-answered.ensures.answer)
    (keeps node c.args.moment c.args.seat.now c.match-new_receipt.seat asked (subst AreCovered after c.records.ensures.covered)
    (subst (λ (log : List AccessRecord). KeepsNew node.log log c.args.seat.now c.match-new_receipt.seat) after (returns-clause-seat c)))
