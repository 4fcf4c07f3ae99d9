-- A number whose digits are bytes, the first one lowest: shifted down by whole bytes it is that of the bytes from there on, and zeros
-- behind the bytes add nothing to it.
use Rattle.std.proofs.Common.{◌≡◌, ℕ, zero, suc, ◌+◌, ◌-◌, ◌*◌, ◌/◌, ◌^◌, ◌<◌, ◌≤◌, List, [], ◌∷◌, ◌++◌, length, get_or, take, drop, replicate, refl, sym, ap, subst, ◌∙◌, arith}
use Rattle.std.proofs.lemmas.List.{take_all, drop-drop, get_or-drop, length-append, length-drop, length-replicate}
use Rattle.std.proofs.lemmas.Nat.{div-mul-add, shr-shr, le_bytes_8}
use Rattle.std.specs.Int.{w32, w64, from_le_bytes, to_le_bytes}

abbrev pub AreBytes : List ℕ → Type 0
AreBytes xs = (i : ℕ) → get_or xs i 0 < 256

abbrev number : List ℕ → ℕ
number [] = 0
number (x ∷ xs) = number xs * 256 + x

shifted : (k : ℕ) (xs : List ℕ) → AreBytes xs → number xs / 2 ^ (8 * k) ≡ number (drop k xs)
shifted zero xs small = omega arith
shifted (suc k) [] small = zero_shifted (8 * suc k)
  where
    zero_shifted : (j : ℕ) → 0 / 2 ^ j ≡ 0
    zero_shifted j = omega arith
shifted (suc k) (x ∷ xs) small =
    let one_more : 8 * suc k ≡ 8 + 8 * k = omega arith in
    ap (λ j. number (x ∷ xs) / 2 ^ j) one_more
    ∙ sym (shr-shr (number (x ∷ xs)) 8 (8 * k))
    ∙ ap (λ n. n / 2 ^ (8 * k)) (div-mul-add (number xs) 256 x (small 0))
    ∙ shifted k xs (λ i. small (suc i))

no_more : (k : ℕ) → number (replicate k 0) ≡ 0
no_more zero = refl
no_more (suc k) = let rest = no_more k in omega arith

before_zeros : (xs : List ℕ) (k : ℕ) → number (xs ++ replicate k 0) ≡ number xs
before_zeros [] k = no_more k
before_zeros (x ∷ xs) k = ap (λ n. n * 256 + x) (before_zeros xs k)

-- the first four bytes are all of four
pub of_four : (xs : List ℕ) → length xs ≡ 4 → from_le_bytes w32 xs ≡ number xs
of_four [] l = absurd (omega arith)
of_four (a ∷ []) l = absurd (omega arith)
of_four (a ∷ b ∷ []) l = absurd (omega arith)
of_four (a ∷ b ∷ c ∷ []) l = absurd (omega arith)
of_four (a ∷ b ∷ c ∷ d ∷ []) l = omega arith
of_four (a ∷ b ∷ c ∷ d ∷ e ∷ xs) l = absurd (omega arith)

-- the first eight bytes are all of eight
pub of_eight : (xs : List ℕ) → length xs ≡ 8 → from_le_bytes w64 xs ≡ number xs
of_eight [] l = absurd (omega arith)
of_eight (a ∷ []) l = absurd (omega arith)
of_eight (a ∷ b ∷ []) l = absurd (omega arith)
of_eight (a ∷ b ∷ c ∷ []) l = absurd (omega arith)
of_eight (a ∷ b ∷ c ∷ d ∷ []) l = absurd (omega arith)
of_eight (a ∷ b ∷ c ∷ d ∷ e ∷ []) l = absurd (omega arith)
of_eight (a ∷ b ∷ c ∷ d ∷ e ∷ f ∷ []) l = absurd (omega arith)
of_eight (a ∷ b ∷ c ∷ d ∷ e ∷ f ∷ g ∷ []) l = absurd (omega arith)
of_eight (a ∷ b ∷ c ∷ d ∷ e ∷ f ∷ g ∷ h ∷ []) l = omega (arith, sum)
  where
    sum : from_le_bytes w64 (a ∷ b ∷ c ∷ d ∷ e ∷ f ∷ g ∷ h ∷ [])
        ≡ a + b * 256 + c * 65536 + d * 16777216 + e * 4294967296 + f * 1099511627776 + g * 281474976710656 + h * 72057594037927936
    sum = refl
of_eight (a ∷ b ∷ c ∷ d ∷ e ∷ f ∷ g ∷ h ∷ i ∷ xs) l = absurd (omega arith)

zeros_are_bytes : (k i : ℕ) → get_or (replicate k 0) i 0 < 256
zeros_are_bytes zero i = omega arith
zeros_are_bytes (suc k) zero = omega arith
zeros_are_bytes (suc k) (suc i) = zeros_are_bytes k i

filled_are_bytes : (xs : List ℕ) (k : ℕ) → AreBytes xs → AreBytes (xs ++ replicate k 0)
filled_are_bytes [] k small i = zeros_are_bytes k i
filled_are_bytes (x ∷ xs) k small zero = small 0
filled_are_bytes (x ∷ xs) k small (suc i) = filled_are_bytes xs k (λ j. small (suc j)) i

-- the bytes behind the first ones, before zeros, eight in all: the last ones of them, read as a number and shifted
pub behind_are : (first last : ℕ) (read : List ℕ → ℕ) → ((ys : List ℕ) → length ys ≡ last → read ys ≡ number ys) → last ≤ 8 → (xs : List ℕ) (word : ℕ)
    → first ≤ length xs → last ≤ length xs → length xs ≤ first + last → AreBytes xs → word ≡ read (take (length xs - (length xs - last)) (drop (length xs - last) xs))
    → to_le_bytes w64 (word / 2 ^ (8 * (first + last - length xs))) ≡ drop first xs ++ replicate (8 + first - length xs) 0
behind_are first last read is_read few xs word front least most small is =
    let end : List ℕ = drop (length xs - last) xs in
    let to_the_end : take (length xs - (length xs - last)) end ≡ end = take_all (length xs - (length xs - last)) end (omega (arith, length-drop (length xs - last) xs)) in
    let all : List ℕ = drop first xs ++ replicate (8 + first - length xs) 0 in
    let len_end : length end ≡ last = omega (arith, length-drop (length xs - last) xs) in
    let len_all : length all ≡ 8 = omega (arith, length-append (drop first xs) (replicate (8 + first - length xs) 0), length-drop first xs, length-replicate {A = ℕ} (8 + first - length xs) 0) in
    let rest : length xs - last + (first + last - length xs) ≡ first = omega arith in
    let later : (n : ℕ) → AreBytes (drop n xs) = λ n i. subst (λ b. b < 256) (sym (get_or-drop n xs i 0)) (small (n + i)) in
    le_bytes_8 all (word / 2 ^ (8 * (first + last - length xs))) len_all (filled_are_bytes (drop first xs) (8 + first - length xs) (later first))
    (ap (λ n. n / 2 ^ (8 * (first + last - length xs))) (is ∙ ap read to_the_end ∙ is_read end len_end)
    ∙ shifted (first + last - length xs) end (later (length xs - last))
    ∙ ap number (drop-drop (first + last - length xs) (length xs - last) xs ∙ ap (λ n. drop n xs) rest)
    ∙ sym (before_zeros (drop first xs) (8 + first - length xs))
    ∙ sym (of_eight all len_all))
