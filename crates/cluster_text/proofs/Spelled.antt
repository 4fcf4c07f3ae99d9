-- The bytes that a word spells: its pieces between stars, and the pairs of its digits.
use Rattle.std.proofs.Common.{◌≡◌, ◌<◌, ◌≤◌, ◌+◌, ◌*◌, ◌%◌, ℕ, List, [], ◌∷◌, Bool, true, false, ◌&&◌, Option, Some, None, Result, Ok, Err, unwrap_or, length, take, drop, slice_index, slice_set, refl, sym, ap, ◌∙◌, nat_lt, arith}
use Rattle.std.specs.Prelude.{◌==◌, if◌then◌else◌}
use Rattle.std.specs.List.{position_or_len, before_first, after_first}
use Rattle.std.specs.Result.{result_ok}
use Rattle.std.proofs.lemmas.Bool.Decides.{nat_tests}
use Rattle.std.proofs.lemmas.List.Splits.{slice_split_first, slice_split_none, length-slice_split}
use Rattle.std.proofs.lemmas.List.Sums.{fails_before_first}
use Rattle.hex.proofs.HexLemmas.{decode_of-even, decode_of-odd}
use Rattle.hex.specs.Hex.{decode_of, decode_pairs, hex_digit_value, pair_value}
use Rattle.hex.specs.declared.error.FromHexError.{FromHexError}
use Rattle.hex.specs.declared.error.FromHexError.TheVariants.{InvalidHexCharacter}
use Rattle.hex.proofs.Pairs.{prepend, decode_step, decode_err, decode_done}
use Rattle.script_words.specs.Words.{pieces_at}
use Rattle.cluster_text.specs.Words.{bytes_by}

-- ---- stars

abbrev is_star : ℕ → Bool
is_star byte = byte == 42

pub no_star : (word : List ℕ) → position_or_len is_star word ≡ length word → pieces_at 42 word ≡ word ∷ []
no_star word none = slice_split_none is_star word (λ k d lt. fails_before_first is_star word k d (omega (arith, none, lt)))

pub star : (word front back : List ℕ) → front ≡ before_first is_star word → back ≡ after_first is_star word → position_or_len is_star word < length word → pieces_at 42 word ≡ front ∷ pieces_at 42 back
star word front back before behind lt =
    slice_split_first is_star word 0 lt
    ∙ ap (λ piece. piece ∷ pieces_at 42 (after_first is_star word)) (sym before)
    ∙ ap (λ rest. front ∷ pieces_at 42 rest) (sym behind)

three : (times digits : List ℕ) (pieces : List (List ℕ)) → 0 < length pieces → bytes_by (times ∷ digits ∷ pieces) ≡ None
three times digits [] some = absurd (omega (arith, some))
three times digits (piece ∷ pieces) some = refl

pub two_stars : (times digits : List ℕ) → position_or_len is_star digits < length digits → bytes_by (times ∷ pieces_at 42 digits) ≡ None
two_stars times digits lt =
    ap (λ pieces. bytes_by (times ∷ pieces)) (slice_split_first is_star digits 0 lt)
    ∙ three times (before_first is_star digits) (pieces_at 42 (after_first is_star digits)) (omega (arith, length-slice_split is_star (after_first is_star digits)))

-- ---- digits

digit_is : (o : Option ℕ) (v : ℕ) → v ≡ unwrap_or o 255 → v < 16 → o ≡ Some v
digit_is (Some w) v is lt = ap Some (sym is)
digit_is None v is lt = absurd (omega (arith, is, lt))

is_small : (c v : ℕ) → hex_digit_value c ≡ Some v → v < 16
is_small c v h = grind (arith)

none_is : (c v : ℕ) (o : Option ℕ) → hex_digit_value c ≡ o → v ≡ unwrap_or o 255 → 16 ≤ v → hex_digit_value c ≡ None
none_is c v (Some w) h is ge = absurd (let lt = is_small c w h in omega (arith, is, ge, lt))
none_is c v None h is ge = h

no_digit : (c v : ℕ) → v ≡ unwrap_or (hex_digit_value c) 255 → 16 ≤ v → hex_digit_value c ≡ None
no_digit c v is ge = none_is c v (hex_digit_value c) refl is ge

pair_ok : (a b i h l : ℕ) → hex_digit_value a ≡ Some h → hex_digit_value b ≡ Some l → pair_value a b i ≡ Ok (h * 16 + l)
pair_ok a b i h l ea eb = rw (ea, eb) refl

pair_high : (a b i : ℕ) → hex_digit_value a ≡ None → pair_value a b i ≡ Err (InvalidHexCharacter a i)
pair_high a b i ea = rw ea refl

pair_low : (a b i h : ℕ) → hex_digit_value a ≡ Some h → hex_digit_value b ≡ None → pair_value a b i ≡ Err (InvalidHexCharacter b (i + 1))
pair_low a b i h ea eb = rw (ea, eb) refl

-- what is decoded so far, and then what is left
abbrev pub left : List ℕ → List ℕ → ℕ → Result (List ℕ) FromHexError
left digits bytes i = prepend (take i bytes) (decode_pairs (2 * i) (drop (2 * i) digits))

-- whether all digits so far are digits, and what is decoded then
abbrev pub Decoded : Bool → List ℕ → List ℕ → ℕ → Type 0
Decoded true digits bytes i = decode_pairs 0 digits ≡ left digits bytes i
Decoded false digits bytes i = result_ok (decode_pairs 0 digits) ≡ None

refused : (r : Result (List ℕ) FromHexError) (e : FromHexError) → r ≡ Err e → result_ok r ≡ None
refused r e is = ap result_ok is

pub decoded_more : (digits bytes : List ℕ) (i high low byte : ℕ) (good : Bool) → 2 * i + 1 < length digits → i < length bytes
    → high ≡ unwrap_or (hex_digit_value (slice_index digits (2 * i))) 255 → low ≡ unwrap_or (hex_digit_value (slice_index digits (2 * i + 1))) 255
    → (high < 16 → low < 16 → byte ≡ high * 16 + low)
    → Decoded good digits bytes i → Decoded ((good && nat_lt high 16) && nat_lt low 16) digits (slice_set bytes i byte) (i + 1)
decoded_more digits bytes i high low byte false fits room is_high is_low sum before = before
decoded_more digits bytes i high low byte true fits room is_high is_low sum before = by (nat_lt high 16) (nat_lt low 16) refl refl
  where
    a : ℕ
    a = slice_index digits (2 * i)

    b : ℕ
    b = slice_index digits (2 * i + 1)

    by : (h l : Bool) → nat_lt high 16 ≡ h → nat_lt low 16 ≡ l → Decoded ((true && h) && l) digits (slice_set bytes i byte) (i + 1)
    by true true eh el =
        let lh : high < 16 = grind (arith, nat_tests, eh) in
        let ll : low < 16 = grind (arith, nat_tests, el) in
        let pair = pair_ok a b (2 * i) high low (digit_is (hex_digit_value a) high is_high lh) (digit_is (hex_digit_value b) low is_low ll) in
        decode_step digits bytes i byte fits room (pair ∙ ap (λ n. Ok n) (sym (sum lh ll))) before
    by true false eh el =
        let lh : high < 16 = grind (arith, nat_tests, eh) in
        let gl : 16 ≤ low = grind (arith, nat_tests, el) in
        refused _ _ (decode_err digits bytes i _ fits (pair_low a b (2 * i) high (digit_is (hex_digit_value a) high is_high lh) (no_digit b low is_low gl)) before)
    by false l eh el =
        let gh : 16 ≤ high = grind (arith, nat_tests, eh) in
        refused _ _ (decode_err digits bytes i _ fits (pair_high a b (2 * i) (no_digit a high is_high gh)) before)

pub all_decoded : (digits bytes : List ℕ) (i : ℕ) (good : Bool) → length bytes ≤ i → length digits ≤ 2 * i → Decoded good digits bytes i
    → result_ok (decode_pairs 0 digits) ≡ (if good then Some bytes else None)
all_decoded digits bytes i true ends fits decoded = ap result_ok (decode_done digits bytes i ends fits decoded)
all_decoded digits bytes i false ends fits decoded = decoded

-- ---- an odd or an even number of digits

pub odd_digits : (digits : List ℕ) → length digits % 2 ≡ 1 → result_ok (decode_of digits) ≡ None
odd_digits digits odd = ap result_ok (decode_of-odd digits odd)

pub even_digits : (digits : List ℕ) → length digits % 2 ≡ 0 → result_ok (decode_of digits) ≡ result_ok (decode_pairs 0 digits)
even_digits digits even = ap result_ok (decode_of-even digits even)
