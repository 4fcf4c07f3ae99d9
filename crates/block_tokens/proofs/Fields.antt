-- A field that is read is the field that was written, and what was written is read again.
use Rattle.std.proofs.Common.{◌≡◌, ℕ, suc, ◌+◌, ◌^◌, ◌<◌, ◌≤◌, Bool, true, false, cond, eqb, ltb, List, [], ◌∷◌, ◌++◌, length, get_or, take, drop, Option, Some, None, refl, sym, ap, subst, ◌∙◌, arith, inl, inr}
use Rattle.std.specs.Prelude.{IsTrue}
use Rattle.std.specs.Int.{Width, w32, w64, byte_len, from_be_bytes, to_be_bytes}
use Rattle.std.proofs.lemmas.Bool.{cases_lt, eqb-true, ltb-false, le-ltb}
use Rattle.std.proofs.lemmas.Bool.Decides.{nat_tests}
use Rattle.std.proofs.lemmas.List.{take_at, drop_at, take-append-drop, length-append, length-take, length-drop, get_or-drop, get_or-take, get_or_past}
use Rattle.std.proofs.lemmas.Nat.{be_bytes_4, be_bytes_8, from_be_bytes-to_be_bytes_4, from_be_bytes-to_be_bytes_8}
use Rattle.permission_bits.specs.Modes.{is_modes}
use Rattle.hdfs_values.specs.Who.{IsWho, is_who, who_of}
use Rattle.block_tokens.specs.Reading.{◌>>=◌, number_at, modes_at, user_at}

abbrev pub IsBytes : List ℕ → Type 0
IsBytes bytes = (i : ℕ) → get_or bytes i 0 < 256

IsBytes-drop : (n : ℕ) (bytes : List ℕ) → IsBytes bytes → IsBytes (drop n bytes)
IsBytes-drop n bytes h i = rw get_or-drop (h (n + i))

IsBytes-take : (n : ℕ) (bytes : List ℕ) → IsBytes bytes → IsBytes (take n bytes)
IsBytes-take n bytes h i =
    elim (cases_lt i n) [
      | inl lt ↦ rw (get_or-take n bytes i 0 lt) (h i)
      | inr le ↦ rw (get_or_past (take n bytes) i 0 (omega (arith, length-take n bytes))) (omega arith)
    ]

pub IsBytes-rest : (b : ℕ) (bytes : List ℕ) → IsBytes (b ∷ bytes) → IsBytes bytes
IsBytes-rest b bytes h i = h (suc i)

-- the value of a step that was read
pub bind_some : {A B : Type 0} (r : Option A) (f : A → Option B) (y : B) → (r >>= f) ≡ Some y → (x : A) × (r ≡ Some x) × (f x ≡ Some y)
bind_some None f y e = absurd cc
bind_some (Some x) f y e = (x, refl, e)

-- a test that had to fail, and one that had to hold
pub guard_off : {A : Type 0} (b : Bool) (x y : A) → cond b None (Some x) ≡ Some y → (b ≡ false) × (x ≡ y)
guard_off true x y e = absurd cc
guard_off false x y e = (refl, cc)

pub guard_on : {A : Type 0} (b : Bool) (x y : A) → cond b (Some x) None ≡ Some y → (b ≡ true) × (x ≡ y)
guard_on true x y e = (refl, cc)
guard_on false x y e = absurd cc

-- what a reader took from the front
pub record Takes (bytes text rest : List ℕ) : Type 0 where
  pub parts : bytes ≡ text ++ rest
  pub rest_fits : IsBytes rest

-- ---- numbers

pub record IsWide (w : Width) (limit : ℕ) : Type 0 where
  pub len : (n : ℕ) → length (to_be_bytes w n) ≡ byte_len w
  pub back : (bytes : List ℕ) → length bytes ≡ byte_len w → IsBytes bytes → to_be_bytes w (from_be_bytes w bytes) ≡ bytes
  pub again : (n : ℕ) → n < limit → from_be_bytes w (to_be_bytes w n) ≡ n
  pub below : (bytes : List ℕ) → IsBytes bytes → from_be_bytes w bytes < limit

pub wide32 : IsWide w32 (2 ^ 32)
wide32 = record {
  len = λ n. refl;
  back = λ bytes len fits. be_bytes_4 bytes _ len fits refl;
  again = λ n lt. from_be_bytes-to_be_bytes_4 n lt;
  below = λ bytes fits. omega (arith, fits 0, fits 1, fits 2, fits 3);
}

pub wide64 : IsWide w64 (2 ^ 64)
wide64 = record {
  len = λ n. refl;
  back = λ bytes len fits. be_bytes_8 bytes _ len fits refl;
  again = λ n lt. from_be_bytes-to_be_bytes_8 n lt;
  below = λ bytes fits. omega (arith, fits 0, fits 1, fits 2, fits 3, fits 4, fits 5, fits 6, fits 7);
}

pub number_takes : (w : Width) (limit : ℕ) (wide : IsWide w limit) (bytes : List ℕ) (n : ℕ) (rest : List ℕ) → IsBytes bytes → number_at w bytes ≡ Some (n, rest) → Takes bytes (to_be_bytes w n) rest × (n < limit)
number_takes w limit wide bytes n rest fits e =
    let g = guard_off (ltb (length bytes) (byte_len w)) (from_be_bytes w (take (byte_len w) bytes), drop (byte_len w) bytes) (n, rest) e in
    let long : byte_len w ≤ length bytes = ltb-false _ _ g.0 in
    let n-is : from_be_bytes w (take (byte_len w) bytes) ≡ n = ap (λ (p : ℕ × List ℕ). p.0) g.1 in
    let rest-is : drop (byte_len w) bytes ≡ rest = ap (λ (p : ℕ × List ℕ). p.1) g.1 in
    let front : to_be_bytes w n ≡ take (byte_len w) bytes = rw (← n-is) (wide.back (take (byte_len w) bytes) (omega (arith, length-take (byte_len w) bytes)) (IsBytes-take (byte_len w) bytes fits)) in
    (record { parts = rw (front, ← rest-is) (sym (take-append-drop (byte_len w) bytes)); rest_fits = rw (← rest-is) (IsBytes-drop (byte_len w) bytes fits) }, rw (← n-is) (wide.below (take (byte_len w) bytes) (IsBytes-take (byte_len w) bytes fits)))

pub number_again : (w : Width) (limit : ℕ) (wide : IsWide w limit) (n : ℕ) (rest : List ℕ) → n < limit → number_at w (to_be_bytes w n ++ rest) ≡ Some (n, rest)
number_again w limit wide n rest lt =
    let len = wide.len n in
    let long : ltb (length (to_be_bytes w n ++ rest)) (byte_len w) ≡ false = le-ltb _ _ (omega (arith, length-append (to_be_bytes w n) rest)) in
    rw (long, take_at (to_be_bytes w n) rest (byte_len w) len, drop_at (to_be_bytes w n) rest (byte_len w) len, wide.again n lt) refl

-- ---- the modes

pub modes_take : (bytes : List ℕ) (modes : ℕ) (rest : List ℕ) → IsBytes bytes → modes_at bytes ≡ Some (modes, rest) → Takes bytes (modes ∷ []) rest × IsTrue (is_modes modes)
unfolding modes_at
modes_take [] modes rest fits e = absurd cc
modes_take (b ∷ bytes) modes rest fits e =
    let g = guard_on (is_modes b) (b, bytes) (modes, rest) e in
    subst (λ (p : ℕ × List ℕ). Takes (b ∷ bytes) (p.0 ∷ []) p.1 × IsTrue (is_modes p.0)) g.1 (record { parts = refl; rest_fits = IsBytes-rest b bytes fits }, g.0)

pub modes_again : (modes : ℕ) (rest : List ℕ) → IsTrue (is_modes modes) → modes_at (modes ∷ rest) ≡ Some (modes, rest)
unfolding modes_at
modes_again modes rest h = rw h refl

-- ---- the user

named : (text name : List ℕ) → who_of text ≡ Some name → IsWho name × (text ≡ name)
named text name e = let g = guard_on (is_who text) text name e in (subst IsWho g.1 g.0, g.1)

pub record TakesUser (bytes user code : List ℕ) : Type 0 where
  pub parts : bytes ≡ length user ∷ (user ++ code)
  pub user_fits : IsWho user
  pub code_fits : length code ≡ 20

pub user_takes : (bytes user code : List ℕ) → user_at bytes ≡ Some (user, code) → TakesUser bytes user code
unfolding user_at
user_takes [] user code e = absurd cc
user_takes (size ∷ rest) user code e =
    let b = bind_some (who_of (take size rest)) (λ name. cond (eqb (length rest) (size + 20)) (Some (name, drop size rest)) None) (user, code) e in
    let g = guard_on (eqb (length rest) (size + 20)) (b.0, drop size rest) (user, code) b.2 in
    let n = named (take size rest) b.0 b.1 in
    let long : length rest ≡ size + 20 = eqb-true _ _ g.0 in
    let len : length b.0 ≡ size = ap length (sym n.1) ∙ omega (arith, length-take size rest) in
    let whole : size ∷ rest ≡ length b.0 ∷ (b.0 ++ drop size rest) = rw (len, ← n.1) (ap (λ (r : List ℕ). size ∷ r) (sym (take-append-drop size rest))) in
    let short : length (drop size rest) ≡ 20 = omega (arith, length-drop size rest) in
    subst (λ (p : List ℕ × List ℕ). TakesUser (size ∷ rest) p.0 p.1) g.1 (record { parts = whole; user_fits = n.0; code_fits = short })

pub user_again : (user code : List ℕ) → IsWho user → length code ≡ 20 → user_at (length user ∷ (user ++ code)) ≡ Some (user, code)
unfolding user_at
user_again user code who short =
    let long : eqb (length (user ++ code)) (length user + 20) ≡ true = grind (arith, nat_tests, length-append user code) in
    rw (take_at user code (length user) refl, drop_at user code (length user) refl, long, who) refl
