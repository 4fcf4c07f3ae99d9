-- Two codes compared by the bits in which they differ.
use Rattle.std.proofs.Common.{◌≡◌, ℕ, ◌+◌, ◌<◌, Bool, true, false, List, length, get_or, eqb, refl, sym, ap, ◌∙◌, arith, below_more}
use Rattle.std.specs.Prelude.{bit_or, bit_xor}
use Rattle.std.proofs.lemmas.Nat.{le_or_l, le_or_r}
use Rattle.std.proofs.lemmas.Bool.Decides.{nat_tests}
use Rattle.std.proofs.lemmas.Grind.{same_number_lists}
use Rattle.hdfs_values.specs.Text.{same}
use Rattle.hdfs_values.proofs.Texts.{same_is, same_self}
use lib.Bits.{xor_self, xor_assoc, xor_zero_l, xor_zero_r}

-- alike up to n
abbrev pub AreAlike : List ℕ → List ℕ → ℕ → Type 0
AreAlike xs ys n = (k : ℕ) → k < n → get_or xs k 0 ≡ get_or ys k 0

-- there is no difference exactly where the lists are alike so far
pub record IsDifference (xs ys : List ℕ) (n difference : ℕ) : Type 0 where
  pub alike : difference ≡ 0 → AreAlike xs ys n
  pub zero_where_alike : AreAlike xs ys n → difference ≡ 0

xor_none : (a b : ℕ) → bit_xor a b ≡ 0 → a ≡ b
xor_none a b e =
    sym (xor_zero_r a) ∙ ap (λ (n : ℕ). bit_xor a n) (sym (xor_self b)) ∙ sym (xor_assoc a b b) ∙ ap (λ (n : ℕ). bit_xor n b) e ∙ xor_zero_l b

both_none : (d a b : ℕ) → bit_or d (bit_xor a b) ≡ 0 → (d ≡ 0) × (a ≡ b)
both_none d a b e =
    (omega (arith, le_or_l d (bit_xor a b)), xor_none a b (omega (arith, le_or_r d (bit_xor a b))))

none_of_alike : (d a b : ℕ) → d ≡ 0 → a ≡ b → bit_or d (bit_xor a b) ≡ 0
none_of_alike d a b z e = rw (z, e, xor_self b) refl

pub difference_none : (xs ys : List ℕ) → IsDifference xs ys 0 0
difference_none xs ys = record { alike = λ e k lt. absurd (omega arith); zero_where_alike = λ h. refl }

pub difference_more : (xs ys : List ℕ) (n d : ℕ) → IsDifference xs ys n d → IsDifference xs ys (n + 1) (bit_or d (bit_xor (get_or xs n 0) (get_or ys n 0)))
difference_more xs ys n d h = record {
  alike = λ e. let two = both_none d (get_or xs n 0) (get_or ys n 0) e in below_more (λ k. get_or xs k 0 ≡ get_or ys k 0) n (h.alike two.0) two.1;
  zero_where_alike = λ all. none_of_alike d (get_or xs n 0) (get_or ys n 0) (h.zero_where_alike (λ k lt. all k (omega arith))) (all n (omega arith));
}

differs : (b : Bool) → (b ≡ true → false ≡ true) → false ≡ b
differs true h = h refl
differs false h = refl

same_of : (b : Bool) (xs ys : List ℕ) → (b ≡ true → xs ≡ ys) → (xs ≡ ys → b ≡ true) → b ≡ same xs ys
same_of true xs ys to from = sym (ap (λ (zs : List ℕ). same xs zs) (sym (to refl)) ∙ same_self xs)
same_of false xs ys to from = differs (same xs ys) (λ e. from (same_is xs ys e))

pub difference_all : (xs ys : List ℕ) (n d : ℕ) → length xs ≡ n → length ys ≡ n → IsDifference xs ys n d → eqb d 0 ≡ same xs ys
difference_all xs ys n d lx ly h =
    same_of (eqb d 0) xs ys (λ e. same_number_lists xs ys (omega arith) (λ k lt. h.alike (grind (arith, nat_tests)) k (omega arith)))
    (λ e. let z : d ≡ 0 = h.zero_where_alike (λ k lt. ap (λ (zs : List ℕ). get_or zs k 0) e) in rw z refl)
