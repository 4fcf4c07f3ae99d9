-- Bits that tell which of some bytes are blanks.
use Rattle.std.proofs.Common.{◌≡◌, ℕ, zero, suc, ◌+◌, ◌-◌, ◌<◌, ◌≤◌, List, [], ◌∷◌, Bool, true, false, cond, eqb, ◌||◌, max, length, get_or, map, refl, sym, ap, ◌∙◌, subst, ⊎_elim, arith}
use Rattle.std.specs.Int.{bit_at}
use Rattle.std.specs.Simd.Lanes.{mask_l}
use Rattle.std.proofs.lemmas.Bool.{cases_lt}
use Rattle.std.proofs.lemmas.Bool.Decides.{nat_tests}
use Rattle.std.proofs.lemmas.Nat.Bits.{bit_at-zero}
use Rattle.std.proofs.lemmas.Simd.{bit_mask_l}
use Rattle.script_words.specs.Blanks.{IsNextBlank}
use Rattle.script_words.specs.Words.{is_blank}

not_zero : (b : ℕ) → 0 < b → eqb 0 b ≡ false
not_zero b above = grind (arith, nat_tests)

tested : (bytes : List ℕ) (b k : ℕ) → 0 < b → get_or (map (λ x. eqb x b) bytes) k false ≡ eqb (get_or bytes k 0) b
tested [] b k above = sym (not_zero b above)
tested (x ∷ bytes) b zero above = refl
tested (x ∷ bytes) b (suc k) above = tested bytes b k above

-- the bit of a byte, where the byte that is looked for isn't 0
pub mark_is : (bytes : List ℕ) (b k : ℕ) → 0 < b → bit_at (mask_l (map (λ x. eqb x b) bytes)) k ≡ cond (eqb (get_or bytes k 0) b) 1 0
mark_is bytes b k above = bit_mask_l (map (λ x. eqb x b) bytes) k ∙ ap (λ is. cond is 1 0) (tested bytes b k above)

pub either_mark : (a b : Bool) → max (cond a 1 0) (cond b 1 0) ≡ cond {A = ℕ} (a || b) 1 0
either_mark true true = refl
either_mark true false = refl
either_mark false true = refl
either_mark false false = refl

pub marks_blank : (b : Bool) → cond {A = ℕ} b 1 0 ≡ 1 → b ≡ true
marks_blank true is = refl
marks_blank false is = absurd (omega (arith, is))

pub marks_no_blank : (b : Bool) → cond {A = ℕ} b 1 0 ≡ 0 → b ≡ false
marks_no_blank true is = absurd (omega (arith, is))
marks_no_blank false is = refl

pub past : (bytes : List ℕ) (k : ℕ) → length bytes ≤ k → get_or bytes k 0 ≡ 0
past [] k le = refl
past (x ∷ bytes) zero le = absurd (omega (arith, le))
past (x ∷ bytes) (suc k) le = past bytes k (omega (arith, le))

-- ---- the bytes of a line from a place on

abbrev pub HasNone : List ℕ → ℕ → ℕ → Type 0
HasNone line from at = (k : ℕ) → from ≤ k → k < at → is_blank (get_or line k 0) ≡ false

-- so many bytes more, of which none is a blank
pub none_more : (line : List ℕ) (from at more : ℕ) → HasNone line from at → ((k : ℕ) → k < more → is_blank (get_or line (at + k) 0) ≡ false) → HasNone line from (at + more)
none_more line from at more none behind k ge lt =
    ⊎_elim (λ before. none k ge before) (λ past. let there : at + (k - at) ≡ k = omega (arith, past) in
    subst (λ n. is_blank (get_or line n 0) ≡ false) there (behind (k - at) (omega (arith, past, lt)))) (cases_lt k at)

module _ (line : List ℕ) (at many marks : ℕ) (within : (k : ℕ) → k < many → bit_at marks k ≡ cond (is_blank (get_or line (at + k) 0)) 1 0) (no_more : (k : ℕ) → many ≤ k → bit_at marks k ≡ 0) where
  clear : (k : ℕ) → k < many → bit_at marks k ≡ 0 → is_blank (get_or line (at + k) 0) ≡ false
  clear k lt is = marks_no_blank (is_blank (get_or line (at + k) 0)) (sym (within k lt) ∙ is)

  -- where no bit is set none of the bytes is a blank
  pub none_marked : marks ≡ 0 → (k : ℕ) → k < many → is_blank (get_or line (at + k) 0) ≡ false
  none_marked zeros k lt = clear k lt (ap (λ bits. bit_at bits k) zeros ∙ bit_at-zero k)

  is_inside : (k : ℕ) → bit_at marks k ≡ 1 → k < many
  is_inside k set = ⊎_elim (λ lt. lt) (λ ge. absurd (omega (arith, no_more k ge, set))) (cases_lt k many)

  -- the lowest bit that is set stands for the next blank
  pub next_marked : (from bit : ℕ) → from ≤ at → at + many ≤ length line → HasNone line from at → bit_at marks bit ≡ 1 → ((k : ℕ) → k < bit → bit_at marks k ≡ 0)
      → (at + bit < length line) × IsNextBlank line from (at + bit)
  next_marked from bit le fits none set below =
      let inside : bit < many = is_inside bit set in (
        omega (arith, inside, fits),
        record {
          low = omega (arith, le);
          high = omega (arith, inside, fits);
          passed = none_more line from at bit none (λ k lt. clear k (omega (arith, lt, inside)) (below k lt));
          there = λ _. marks_blank (is_blank (get_or line (at + bit) 0)) (sym (within bit inside) ∙ set);
        },
      )
