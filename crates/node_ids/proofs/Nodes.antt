-- The principals of DataNodes.
use Rattle.std.proofs.Common.{◌≡◌, ◌≢◌, ℕ, ◌≤◌, ◌<◌, ◌^◌, Bool, true, false, List, ◌∷◌, ◌&&◌, length, drop, get_or, Some, None, IsTrue, eqb, cond, refl, sym, ap, ◌∙◌, arith, subst}
use Rattle.std.specs.Char.{is_ascii_digit}
use Rattle.std.specs.List.{list_all}
use Rattle.std.specs.Fmt.{decimal}
use Rattle.std.specs.Str.Parse.{digits_value}
use Rattle.std.proofs.lemmas.Bool.Decides.{nat_tests}
use Rattle.std.proofs.lemmas.Fmt.{digits_decimal, digits_value-decimal, decimal-digits_value, decimal_nonempty, first_decimal}
use Rattle.hdfs_values.specs.Text.{same}
use Rattle.hdfs_values.specs.Number.{number_of, is_number_text}
use Rattle.node_ids.specs.NodeId.{is_node_id, node_principal, node_of}
use Rattle.hdfs_values.proofs.Numbers.{numerals}
use Rattle.hdfs_values.proofs.Texts.{same_is, same_self}
use Rattle.hdfs_values.proofs.Texts.{guard_some}

guard_false : {X : Type 0} (b : Bool) (x : X) → (b ≡ true → ⊥) → cond b (Some x) None ≡ None
guard_false true x h = absurd (h refl)
guard_false false x h = refl

both : (a b : Bool) → (a && b) ≡ true → (a ≡ true) × (b ≡ true)
both true true h = (refl, refl)
both true false h = cc
both false b h = cc

record Range (id : ℕ) : Type 0 where
  low : 1 ≤ id
  high : id < 4294967296

range : (id : ℕ) → is_node_id id ≡ true → Range id
range id h = record { low = grind (arith, nat_tests); high = grind (arith, nat_tests) }

number_decimal : (n : ℕ) → n < 2 ^ 64 → number_of (decimal n) ≡ Some n
number_decimal n lt =
    let some : 0 < length (decimal n) = decimal_nonempty n lt in
    let digits : list_all is_ascii_digit (decimal n) ≡ true = digits_decimal numerals n lt in
    let value : digits_value 10 (decimal n) ≡ n = digits_value-decimal numerals n lt in
    grind (arith, nat_tests, some, digits, value)

-- a text that is no node's id in decimal, behind the prefix
no_node : (ds : List ℕ) → ((n : ℕ) → Range n → ds ≡ decimal n → ⊥) → node_of (100 ∷ 110 ∷ 45 ∷ ds) ≡ None
no_node ds none = guard_false _ _ (λ h.
    let parts = both (is_node_id (digits_value 10 ds)) (same (100 ∷ 110 ∷ 45 ∷ ds) (node_principal (digits_value 10 ds))) h in
    none (digits_value 10 ds) (range _ parts.0) (let text : List ℕ = 100 ∷ 110 ∷ 45 ∷ ds in ap (drop 3) (same_is text (node_principal (digits_value 10 ds)) parts.1)))

pub leading_zero : (ds : List ℕ) → true ≡ eqb (get_or ds 0 0) 48 → node_of (100 ∷ 110 ∷ 45 ∷ ds) ≡ None
leading_zero ds test = no_node ds (λ n r e.
    let zero : get_or ds 0 0 ≡ 48 = grind (arith, nat_tests, test) in
    let first : 48 < get_or (decimal n) 0 0 = first_decimal n (omega (arith, r.low)) (omega (arith, r.high)) in
    omega (arith, first, zero, ap (λ l. get_or l 0 0) e))

pub no_number : (ds : List ℕ) → number_of ds ≡ None → node_of (100 ∷ 110 ∷ 45 ∷ ds) ≡ None
no_number ds none = no_node ds (λ n r e.
    let some = number_decimal n (omega (arith, r.high)) in
    let both_ways : Some n ≡ None = sym some ∙ ap number_of (sym e) ∙ none in
    cc)

pub too_great : (ds : List ℕ) (id : ℕ) → number_of ds ≡ Some id → 4294967296 ≤ id → node_of (100 ∷ 110 ∷ 45 ∷ ds) ≡ None
too_great ds id spelled great = no_node ds (λ n r e.
    let some = number_decimal n (omega (arith, r.high)) in
    let both_ways : Some n ≡ Some id = sym some ∙ ap number_of (sym e) ∙ spelled in
    let one : n ≡ id = cc in
    omega (arith, one, r.high, great))

pub canonical : (ds : List ℕ) (id : ℕ) → false ≡ eqb (get_or ds 0 0) 48 → number_of ds ≡ Some id → cond (is_node_id id) (Some id) None ≡ node_of (100 ∷ 110 ∷ 45 ∷ ds)
canonical ds id test spelled =
    let some : get_or ds 0 0 ≢ 48 = grind (arith, nat_tests, test) in
    let parts = guard_some _ _ _ spelled in
    let tests = both (is_number_text ds) _ parts.0 in
    let filled : 0 < length ds = grind (arith, nat_tests, tests.0) in
    let digits : list_all is_ascii_digit ds ≡ true = grind (arith, nat_tests, tests.0) in
    let small : digits_value 10 ds < 18446744073709551616 = grind (arith, nat_tests, tests.1) in
    let own : decimal (digits_value 10 ds) ≡ ds = decimal-digits_value numerals ds digits filled (λ zero. absurd (some zero)) small in
    let one : same (100 ∷ 110 ∷ 45 ∷ ds) (node_principal (digits_value 10 ds)) ≡ true =
    ap (λ t. same (100 ∷ 110 ∷ 45 ∷ ds) (100 ∷ 110 ∷ 45 ∷ t)) own ∙ same_self (100 ∷ 110 ∷ 45 ∷ ds) in
    ap (λ n. cond (is_node_id n) (Some n) None) (sym parts.1) ∙ joined (is_node_id (digits_value 10 ds)) _ (digits_value 10 ds) one
  where
    joined : (a b : Bool) (n : ℕ) → b ≡ true → cond a (Some n) None ≡ cond (a && b) (Some n) None
    joined true b n h = rw h refl
    joined false b n h = refl

pub principal_read : (id : ℕ) → IsTrue (is_node_id id) → node_of (node_principal id) ≡ Some id
principal_read id h =
    let r = range id h in
    let fits : id < 18446744073709551616 = omega (arith, r.high) in
    let first : 48 < get_or (decimal id) 0 0 = first_decimal id (omega (arith, r.low)) fits in
    sym (canonical (decimal id) id (grind (arith, nat_tests, first)) (number_decimal id fits)) ∙ rw h refl

pub principal_spelled : (name : List ℕ) (id : ℕ) → node_of name ≡ Some id → IsTrue (is_node_id id) × (name ≡ node_principal id)
principal_spelled name id e =
    let parts = guard_some _ _ _ e in
    let tests = both (is_node_id (digits_value 10 (drop 3 name))) (same name (node_principal (digits_value 10 (drop 3 name)))) parts.0 in
    (subst (λ n. is_node_id n ≡ true) parts.1 tests.0, same_is name (node_principal (digits_value 10 (drop 3 name))) tests.1 ∙ ap node_principal parts.1)
