-- Which records of a log have a receipt, receipt by receipt.
use Rattle.std.proofs.Common.{◌≡◌, ◌⊎◌, ◌≤◌, ◌<◌, ◌+◌, ◌-◌, ◌∙◌, ℕ, zero, suc, Bool, true, false, List, [], ◌∷◌, ◌++◌, length, take, drop, set, Option, Some, refl, sym, ap, cond, subst, slice_get, get_or, inl, inr, arith, get_or-set_other, eqb-true, eq-eqb}
use Rattle.std.specs.Prelude.{nat_eq, count_by, All, unwrap_or}
use Rattle.std.proofs.lemmas.Bool.{eqb-false}
use Rattle.std.proofs.lemmas.List.{get_or-set_same, take_more, take-append-drop}
use Rattle.std.proofs.lemmas.List.Sums.{sum_by-append}
use Rattle.std.proofs.lemmas.Option.{slice_get_within, get_or_from_slice_get}
use Rattle.call_parts.specs.declared.access_log.AccessRecord.{AccessRecord}
use Rattle.data_service.specs.declared.seat.LogReceipt.{LogReceipt}
use Rattle.data_service.specs.Logged.{AllLogged, IsLogged, Stands, has_number}
use Rattle.data_service.specs.Found.{AreFound}

some_is : {A : Type 0} (x y : A) → Some x ≡ Some y → x ≡ y
some_is {A} x y e = ap (λ (o : Option A). unwrap_or o x) e

-- one item more, of which it holds
grown : {A : Type 0} (P : A → Type 0) (xs : List A) (x : A) → ((i : ℕ) (y : A) → slice_get xs i ≡ Some y → P y) → P x → (i : ℕ) (y : A) → slice_get (xs ++ x ∷ []) i ≡ Some y → P y
grown {A} P [] x all own zero y e = subst P (some_is x y e) own
grown P [] x all own (suc i) y e = cc
grown P (z ∷ xs) x all own zero y e = all zero y e
grown P (z ∷ xs) x all own (suc i) y e = grown P xs x (λ i y e. all (suc i) y e) own i y e

not_in : (found : List Bool) (k : ℕ) → All (λ is_found. is_found ≡ false) found → get_or found k false ≡ false
not_in [] k none = refl
not_in (b ∷ found) zero none = none zero b (omega arith)
not_in (b ∷ found) (suc k) none = not_in found k (λ i d within. none (suc i) d (omega (arith, within)))

abbrev pub one_if : Bool → ℕ
one_if b = cond b 1 0

counted : (number : ℕ) (receipts : List LogReceipt) (receipt : LogReceipt) → count_by (has_number number) (receipts ++ receipt ∷ []) ≡ count_by (has_number number) receipts + one_if (nat_eq receipt.number number)
counted number receipts receipt = sum_by-append (λ r. one_if (has_number number r)) receipts (receipt ∷ []) ∙ ap (λ k. count_by (has_number number) receipts + k) (omega arith)

module _ (log : List AccessRecord) (log_start : ℕ) where
  pub found_none : (found : List Bool) → All (λ is_found. is_found ≡ false) found → AreFound log log_start [] found
  found_none found none = record {
    stand = λ i receipt at. absurd (never i receipt at);
    counts = λ number from within. sym (ap one_if (not_in found (number - log_start) none));
  }
    where
      never : (i : ℕ) (receipt : LogReceipt) → slice_get [] i ≡ Some receipt → ⊥
      never i receipt at = cc

  module _ (found : List Bool) (receipts : List LogReceipt) (are : AreFound log log_start receipts found) (receipt : LogReceipt) (stands : Stands log log_start receipt) where
    abbrev pub number : ℕ
    number = receipt.number

    within : number < length log
    within = slice_get_within log number receipt.entry stands.1

    pub found_more : length found ≡ length log - log_start → get_or found (number - log_start) false ≡ false → AreFound log log_start (receipts ++ receipt ∷ []) (set found (number - log_start) true)
    found_more len first = record { stand = grown (Stands log log_start) receipts receipt are.stand stands; counts = λ other from short. by other from short (nat_eq number other) refl }
      where
        new_found : List Bool
        new_found = set found (number - log_start) true

        by : (other : ℕ) → log_start ≤ other → other < length log → (b : Bool) → nat_eq number other ≡ b
            → count_by (has_number other) (receipts ++ receipt ∷ []) ≡ one_if (get_or new_found (other - log_start) false)
        by other from short true e =
            subst (λ n. count_by (has_number n) (receipts ++ receipt ∷ []) ≡ one_if (get_or new_found (n - log_start) false)) (eqb-true number other e)
            (omega (
              arith,
              counted number receipts receipt,
              ap one_if (eq-eqb number number refl),
              are.counts number stands.0 within,
              ap one_if first,
              ap one_if (get_or-set_same found (number - log_start) true false (omega (arith, len, within, stands.0))),
            ))
        by other from short false e =
            let apart : other - log_start ≡ number - log_start → ⊥ = λ same. eqb-false number other e (omega (arith, same, from, stands.0)) in
            omega (arith, counted other receipts receipt, ap one_if e, are.counts other from short, ap one_if (get_or-set_other found (number - log_start) (other - log_start) true false apart))

    -- a second receipt of one record
    pub found_twice : get_or found (number - log_start) false ≡ true → count_by (has_number number) (receipts ++ receipt ∷ []) ≡ 2
    found_twice again = omega (arith, counted number receipts receipt, ap one_if (eq-eqb number number refl), are.counts number stands.0 within, ap one_if again)

  -- a receipt that doesn't stand, or is the second of its record
  pub falls_short : (all : List LogReceipt) (i : ℕ) (receipt : LogReceipt) (found : List Bool) → slice_get all i ≡ Some receipt → AreFound log log_start (take i all) found
      → (Stands log log_start receipt → ⊥) ⊎ (Stands log log_start receipt × (get_or found (receipt.number - log_start) false ≡ true)) → IsLogged log log_start all receipt.number → ⊥
  falls_short all i receipt found at are (inl falls) logged = falls (logged.stand i receipt at refl)
  falls_short all i receipt found at are (inr (stands, again)) logged =
      let short : i < length all = slice_get_within all i receipt at in
      let next : take (i + 1) all ≡ take i all ++ receipt ∷ [] =
      take_more all i receipt short ∙ ap (λ (x : LogReceipt). take i all ++ x ∷ []) (get_or_from_slice_get all i receipt receipt at) in
      let twice : count_by (has_number receipt.number) (take (i + 1) all) ≡ 2 = ap (count_by (has_number receipt.number)) next ∙ found_twice found (take i all) are receipt stands again in
      let parts : count_by (has_number receipt.number) all ≡ count_by (has_number receipt.number) (take (i + 1) all) + count_by (has_number receipt.number) (drop (i + 1) all) =
      ap (count_by (has_number receipt.number)) (sym (take-append-drop (i + 1) all)) ∙ sum_by-append (λ r. one_if (has_number receipt.number r)) (take (i + 1) all) (drop (i + 1) all) in
      omega (arith, twice, parts, logged.once stands.0 (slice_get_within log receipt.number receipt.entry stands.1))

  module _ (receipts : List LogReceipt) (found : List Bool) (are : AreFound log log_start receipts found) (len : length found ≡ length log - log_start) where
    pub all_logged : log_start ≤ length log → All (λ is_found. is_found ≡ true) found → AllLogged log log_start receipts
    all_logged start all = λ number. record {
      before = λ old. omega (arith, old, start);
      stand = λ i receipt at of_number. are.stand i receipt at;
      once = λ from within. are.counts number from within ∙ ap one_if (all (number - log_start) false (omega (arith, len, from, within)));
    }

    -- a record that no receipt is of
    pub is_lacking : (place : ℕ) → place < length found → get_or found place true ≡ false → IsLogged log log_start receipts (log_start + place) → ⊥
    is_lacking place within none logged =
        let from : log_start ≤ log_start + place = omega arith in
        let short : log_start + place < length log = omega (arith, len, within) in
        let back : log_start + place - log_start ≡ place = omega arith in
        let none_too : get_or found place false ≡ false = same_within found place true false within ∙ none in
        omega (arith, logged.once from short, are.counts (log_start + place) from short, ap (λ k. one_if (get_or found k false)) back, ap one_if none_too)
      where
        same_within : (found : List Bool) (place : ℕ) (d e : Bool) → place < length found → get_or found place e ≡ get_or found place d
        same_within [] place d e h = absurd (omega arith)
        same_within (b ∷ found) zero d e h = refl
        same_within (b ∷ found) (suc place) d e h = same_within found place d e (omega (arith, h))

  pub lost : (receipts : List LogReceipt) → length log < log_start → IsLogged log log_start receipts (length log) → ⊥
  lost receipts short logged = omega (arith, logged.before short)
