-- Decimal and octal digits.
use Rattle.std.proofs.Common.{◌≡◌, ◌==◌, ℕ, zero, suc, ◌≤◌, ◌<◌, ◌^◌, Bool, true, false, ◌&&◌, cond, nat_lt, List, [], ◌∷◌, drop, length, slice_index, None, Some, Result, Ok, Err, refl, sym, ap, ◌∙◌, subst, true≢false, arith, rules}
use Rattle.std.specs.Char.{is_ascii_digit}
use Rattle.std.specs.List.{list_all}
use Rattle.std.specs.Result.{result_ok, OkIff}
use Rattle.std.specs.Str.Parse.{AllDigits, digits_value, without_leading_plus, ParsesUnsigned}
use Rattle.std.proofs.lemmas.Bool.Decides.{nat_tests}
use Rattle.std.proofs.lemmas.Str.Parse.{IsNumeralModel, numerals_by_value, parse_digits}
use Rattle.hdfs_values.specs.Number.{is_number_text, number_of}

pub pow_small : (i : ℕ) → i < 4 → 8 ^ i ≤ 512
pow_small zero lt = omega arith
pow_small (suc zero) lt = omega arith
pow_small (suc (suc zero)) lt = omega arith
pow_small (suc (suc (suc zero))) lt = omega arith
pow_small (suc (suc (suc (suc i)))) lt = absurd (omega arith)

pub numerals : IsNumeralModel (λ ds. list_all is_ascii_digit ds ≡ true) (digits_value 10)
numerals = numerals_by_value _ (search rules)

read : {E : Type 0} (bs : List ℕ) (r : Result ℕ E) → 0 < length bs → list_all is_ascii_digit bs ≡ true → OkIff r ((0 < length bs) × (digits_value 10 bs < 2 ^ 64)) (digits_value 10 bs) → result_ok r ≡ number_of bs
read bs (Ok n) some digits h = grind (arith, nat_tests, h.0.1, h.1, digits)
read bs (Err e) some digits h = grind (arith, nat_tests, digits, λ (lt : digits_value 10 bs < 2 ^ 64). h (some, lt))

number_parsed : {E : Type 0} (bs : List ℕ) (r : Result ℕ E) → 0 < length bs → list_all is_ascii_digit bs ≡ true → ParsesUnsigned 64 10 bs r → result_ok r ≡ number_of bs
number_parsed bs r some digits h = read bs r some digits (parse_digits numerals 64 bs r h digits)

none_but_digits : (bs : List ℕ) → is_number_text bs ≡ false → None ≡ number_of bs
none_but_digits bs none = sym (ap (λ t. cond (t && nat_lt (digits_value 10 bs) (2 ^ 64)) (Some (digits_value 10 bs)) None) none)

-- a plus before the digits, which `parse` would pass over, makes a text no number
pub none_with_plus : (bs : List ℕ) → (slice_index bs 0 == 43) ≡ true → None ≡ number_of bs
none_with_plus [] plus = refl
none_with_plus (c ∷ cs) plus = none_but_digits (c ∷ cs) (grind (arith, nat_tests, plus))

both : (b d : Bool) → (b && d) ≡ true → (b ≡ true) × (d ≡ true)
both true d h = (refl, h)
both false d h = absurd (true≢false (sym h))

-- what `parse` reads of any other text is the number
pub number_read : {E : Type 0} (bs : List ℕ) (r : Result ℕ E) → (slice_index bs 0 == 43) ≡ false → ParsesUnsigned 64 10 bs r → result_ok r ≡ number_of bs
number_read {E} bs r other h = by (is_number_text bs) refl
  where
    bare : without_leading_plus bs ≡ bs
    bare = ap (λ t. drop (cond t 1 0) bs) other

    unread : (r : Result ℕ E) → is_number_text bs ≡ false → ParsesUnsigned 64 10 bs r → result_ok r ≡ None
    unread (Ok n) none h =
        let digits : list_all is_ascii_digit bs ≡ true = numerals.from bs (subst (AllDigits 10) bare h.0.0.1) in
        let some : 0 < length bs = subst (λ ds. 0 < length ds) bare h.0.0.0 in
        grind (arith, nat_tests, digits, some, none)
    unread (Err e) none h = refl

    by : (b : Bool) → is_number_text bs ≡ b → result_ok r ≡ number_of bs
    by true is =
        let parts = both (nat_lt 0 (length bs)) (list_all is_ascii_digit bs) is in
        let some : 0 < length bs = grind (arith, nat_tests, parts.0) in
        number_parsed bs r some parts.1 h
    by false is = unread r is h ∙ none_but_digits bs is
