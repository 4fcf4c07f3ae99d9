-- A number that is spelled as an id of a DataNode is that id, however great it is.
use Rattle.std.proofs.Common.{◌≡◌, ℕ, zero, suc, ◌+◌, ◌*◌, ◌/◌, ◌%◌, ◌<◌, ◌≤◌, ◌^◌, Bool, true, false, List, [], ◌∷◌, drop, length, cond, nat_lt, refl, ap, arith, Some}
use Rattle.std.specs.Prelude.{◌==◌}
use Rattle.std.specs.Fmt.{digit_glyph, digits_onto, digits, decimal}
use Rattle.std.proofs.lemmas.Bool.Decides.{nat_tests}
use Rattle.node_ids.specs.NodeId.{is_node_id, node_principal, node_of}
use Rattle.node_ids.proofs.Nodes.{principal_spelled}

-- ---- digits

abbrev head : List ℕ → ℕ
head [] = 0
head (first ∷ rest) = first

abbrev glyph : ℕ → ℕ
glyph n = digit_glyph false (n % 10)

under_ten : (n : ℕ) → nat_lt (n % 10) 10 ≡ true
under_ten n = grind (arith, nat_tests)

glyph_is : (n : ℕ) → glyph n ≡ 48 + n % 10
glyph_is n = ap (λ b. cond b (48 + n % 10) (87 + n % 10)) (under_ten n)

-- with a digit less, where there are more
abbrev spelled : ℕ → ℕ → List ℕ → Bool → List ℕ
spelled k n behind last = cond last (glyph n ∷ behind) (digits_onto k 10 false (n / 10) (glyph n ∷ behind))

no_shorter : (k n : ℕ) (behind : List ℕ) → length behind ≤ length (digits_onto k 10 false n behind)
no_shorter zero n behind = omega arith
no_shorter (suc k) n behind = by (n / 10 == 0) (no_shorter k (n / 10) (glyph n ∷ behind))
  where
    by : (b : Bool) → length (glyph n ∷ behind) ≤ length (digits_onto k 10 false (n / 10) (glyph n ∷ behind)) → length behind ≤ length (spelled k n behind b)
    by true h = omega arith
    by false h = omega (arith, h)

longer : (k n : ℕ) (behind : List ℕ) → length behind < length (digits_onto (suc k) 10 false n behind)
longer k n behind = by (n / 10 == 0) (no_shorter k (n / 10) (glyph n ∷ behind))
  where
    by : (b : Bool) → length (glyph n ∷ behind) ≤ length (digits_onto k 10 false (n / 10) (glyph n ∷ behind)) → length behind < length (spelled k n behind b)
    by true h = omega arith
    by false h = omega (arith, h)

-- above all numbers of so many digits, and one more
abbrev most : ℕ → ℕ
most zero = 10
most (suc j) = 10 * most j

both_last : (n m : ℕ) (xs ys : List ℕ) → (n / 10 == 0) ≡ true → (m / 10 == 0) ≡ true → glyph n ∷ xs ≡ glyph m ∷ ys → (n ≡ m) × (xs ≡ ys)
both_last n m xs ys p q e =
    let a : n / 10 ≡ 0 = grind (arith, nat_tests) in
    let b : m / 10 ≡ 0 = grind (arith, nat_tests) in
    (omega (arith, a, b, glyph_is n, glyph_is m, ap head e), ap (drop 1) e)

-- with room for two digits more than the lesser of the two has, the same digits are of the same number
same_number : (j n m : ℕ) (xs ys : List ℕ) → m < most j → length xs ≡ length ys → digits_onto (suc (suc j)) 10 false n xs ≡ digits_onto (suc (suc j)) 10 false m ys → (n ≡ m) × (xs ≡ ys)
same_number zero n m xs ys few alike e = by (n / 10 == 0) (m / 10 == 0) refl refl e
  where
    by : (b c : Bool) → (n / 10 == 0) ≡ b → (m / 10 == 0) ≡ c → spelled 1 n xs b ≡ spelled 1 m ys c → (n ≡ m) × (xs ≡ ys)
    by true true p q h = both_last n m xs ys p q h
    by false true p q h = absurd (omega (arith, alike, ap length h, longer 0 (n / 10) (glyph n ∷ xs)))
    by b false p q h = absurd (grind (arith, nat_tests))
same_number (suc j) n m xs ys few alike e = by (n / 10 == 0) (m / 10 == 0) refl refl e (same_number j (n / 10) (m / 10) (glyph n ∷ xs) (glyph m ∷ ys))
  where
    by : (b c : Bool) → (n / 10 == 0) ≡ b → (m / 10 == 0) ≡ c → spelled (suc (suc j)) n xs b ≡ spelled (suc (suc j)) m ys c
        → (m / 10 < most j → length (glyph n ∷ xs) ≡ length (glyph m ∷ ys) → digits_onto (suc (suc j)) 10 false (n / 10) (glyph n ∷ xs) ≡ digits_onto (suc (suc j)) 10 false (m / 10) (glyph m ∷ ys)
        → (n / 10 ≡ m / 10) × (glyph n ∷ xs ≡ glyph m ∷ ys))
        → (n ≡ m) × (xs ≡ ys)
    by true true p q h rest = both_last n m xs ys p q h
    by true false p q h rest = absurd (omega (arith, alike, ap length h, longer (suc j) (m / 10) (glyph m ∷ ys)))
    by false true p q h rest = absurd (omega (arith, alike, ap length h, longer (suc j) (n / 10) (glyph n ∷ xs)))
    by false false p q h rest =
        let front = rest (omega (arith, few)) (omega (arith, alike)) h in
        (omega (arith, front.0, glyph_is n, glyph_is m, ap head front.1), ap (drop 1) front.1)

-- ---- ids

same_decimal : (n m : ℕ) → m < 2 ^ 32 → decimal n ≡ decimal m → n ≡ m
unfolding digits
same_decimal n m small e = (same_number 62 n m [] [] (omega (arith, small)) refl e).0

below : (id : ℕ) → is_node_id id ≡ true → id < 2 ^ 32
below id h = grind (arith, nat_tests)

-- whose name this is, is the node of that name
pub named : (n node : ℕ) → node_of (node_principal n) ≡ Some node → n ≡ node
named n node e =
    let spells = principal_spelled (node_principal n) node e in
    same_decimal n node (below node spells.0) (ap (drop 3) spells.1)
