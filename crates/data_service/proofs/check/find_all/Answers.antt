use Rattle.std.proofs.Common.{◌≡◌, ◌+◌, ◌-◌, ◌∙◌, List, [], ◌∷◌, ◌++◌, Bool, length, length-set, true, take, refl, sym, ap, subst}
use Rattle.std.proofs.lemmas.List.{take_more}
use Rattle.std.proofs.lemmas.Option.{slice_get_read}
use Rattle.data_service.specs.declared.seat.LogReceipt.{LogReceipt}
use Rattle.data_service.specs.Found.{AreFound}
use Rattle.data_service.specs.Logged.{IsLogged}
use Rattle.data_service.proofs.Finding.{falls_short, found_more}
use Rattle.data_service.proofs.check.find_all.Goals as goal

pub returns-in-Err-clause-err : goal.returns-in-Err-clause-err
returns-in-Err-clause-err c =
    let all = c.args.receipts.now in
    let i = c.loop-receipt.receipt-index in
    let receipt = c.receipt-item.result in
    subst (λ number. IsLogged c.args.log.now c.args.log_start all number → ⊥) (sym c.in-Err.ensures.number)
    (falls_short c.args.log.now c.args.log_start all i receipt c.loop-receipt.found (slice_get_read all (length all) i receipt refl c.loop-receipt-test.true c.receipt-item.is)
    c.loop-receipt.invariant.1 c.in-Err.ensures.err)

pub loop-receipt-preserved : goal.loop-receipt-preserved
loop-receipt-preserved c =
    let log = c.args.log.now in
    let log_start = c.args.log_start in
    let all = c.args.receipts.now in
    let i = c.loop-receipt.receipt-index in
    let receipt = c.receipt-item.result in
    let found = c.loop-receipt.found in
    let next : take (i + 1) all ≡ take i all ++ receipt ∷ [] = take_more all i receipt c.loop-receipt-test.true ∙ ap (λ (x : LogReceipt). take i all ++ x ∷ []) (sym c.receipt-item.is) in
    let more = found_more log log_start found (take i all) c.loop-receipt.invariant.1 receipt c.in_default.ensures.stands (c.loop-receipt.invariant.0 ∙ c.requires.len) c.in_default.ensures.first in (
      ap length c.in_default.ensures.found ∙ (length-set found (receipt.number - log_start) true ∙ c.loop-receipt.invariant.0),
      subst (λ (receipts : List LogReceipt). AreFound log log_start receipts c.find.new.found) (sym next)
          (subst (λ (new : List Bool). AreFound log log_start (take i all ++ receipt ∷ []) new) (sym c.in_default.ensures.found) more),
    )
