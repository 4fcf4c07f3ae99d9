use Rattle.std.proofs.Common.{true, ◌≡◌, ◌∙◌, ℕ, List, Some, length, ltb, ltb-true, slice_get, get_or, refl, sym, ap}
use Rattle.std.proofs.lemmas.Option.{slice_get_read}
use Rattle.call_parts.specs.declared.access_log.AccessRecord.{AccessRecord}
use Rattle.data_service.specs.declared.seat.Parts.{Parts}
use Rattle.data_service.proofs.seat.new_receipt.Goals as goal

read : (records : List AccessRecord) (number : ℕ) (entry : AccessRecord) → true ≡ ltb number (length records) → entry ≡ get_or records number entry → slice_get records number ≡ Some entry
read records number entry within is = slice_get_read records (length records) number entry refl (ltb-true number (length records) (sym within)) is

pub into_receipt-requires-clause-caller : goal.into_receipt-requires-clause-caller
into_receipt-requires-clause-caller c =
    let at = read c.args.records.now c.args.number c.in-Some-get.entry.now c.in-Some-get.ensures.lookup.0 c.in-Some-get.ensures.lookup.1 in
    ap (λ (parts : Parts). parts.caller) (c.requires c.in-Some-get.entry.now c.in-Some.parts at c.in-Some.is)

pub into_receipt-requires-clause-token : goal.into_receipt-requires-clause-token
into_receipt-requires-clause-token c =
    let at = read c.args.records.now c.args.number c.in-Some-get.entry.now c.in-Some-get.ensures.lookup.0 c.in-Some-get.ensures.lookup.1 in
    ap (λ (parts : Parts). parts.token) (c.requires c.in-Some-get.entry.now c.in-Some.parts at c.in-Some.is)

pub returns-clause-some : goal.returns-clause-some
returns-clause-some c =
    let at = read c.args.records.now c.args.number c.in-Some-get.entry.now c.in-Some-get.ensures.lookup.0 c.in-Some-get.ensures.lookup.1 in
    (c.into_receipt.ensures.number, at ∙ ap (λ (entry : AccessRecord). Some entry) (sym c.into_receipt.ensures.entry), rw c.in-Some.is refl)
