-- What is left of a file's length behind some of its blocks.
use Rattle.std.proofs.Common.{◌≡◌, ℕ, zero, suc, ◌+◌, ◌-◌, ◌≤◌, ◌<◌, ◌^◌, List, [], ◌∷◌, ◌++◌, length, drop, take, Some, None, refl, sym, ap, ◌∙◌, arith}
use Rattle.std.specs.Prelude.{unwrap_or, get_or, slice_get, slice_set}
use Rattle.std.proofs.lemmas.Bool.{lt-ltb}
use Rattle.file_blocks.specs.declared.blocks.FileBlock.{FileBlock}
use Rattle.file_blocks.specs.Blocks.{length_of, told_length, last_of, but_last}

next : (i : ℕ) → suc i + 1 ≡ suc (i + 1)
next i = omega arith

pub length_behind : (blocks : List FileBlock) (i : ℕ) (block : FileBlock) → slice_get blocks i ≡ Some block → length_of (drop i blocks) ≡ unwrap_or block.committed 0 + length_of (drop (i + 1) blocks)
length_behind [] i block h = cc
length_behind (b ∷ bs) zero block h = cc
length_behind (b ∷ bs) (suc i) block h = rw (next i) (length_behind bs i block h)

pub length_past : (blocks : List FileBlock) (i : ℕ) → length blocks ≤ i → length_of (drop i blocks) ≡ 0
length_past [] zero h = refl
length_past [] (suc i) h = refl
length_past (b ∷ bs) zero h = omega (arith, h)
length_past (b ∷ bs) (suc i) h = length_past bs i (omega (arith, h))

pub told : (blocks : List FileBlock) (i length_so_far : ℕ) → length blocks ≤ i → length_so_far + length_of (drop i blocks) ≡ length_of blocks → length_so_far < 2 ^ 64 → Some length_so_far ≡ told_length (length_of blocks)
told blocks i n past h fits =
    let whole : n ≡ length_of blocks = omega (arith, h, length_past blocks i past) in
    rw (sym whole, lt-ltb n (2 ^ 64) fits) refl

-- ---- all but the last

one_less : (n : ℕ) → suc n - 1 ≡ n
one_less n = omega arith

last_behind : (block other : FileBlock) (blocks : List FileBlock) → last_of (block ∷ other ∷ blocks) ≡ last_of (other ∷ blocks)
last_behind block other blocks = ap (slice_get (block ∷ other ∷ blocks)) (one_less (suc (length blocks))) ∙ ap (slice_get (other ∷ blocks)) (sym (one_less (length blocks)))

front_behind : (block other : FileBlock) (blocks : List FileBlock) → but_last (block ∷ other ∷ blocks) ≡ block ∷ but_last (other ∷ blocks)
front_behind block other blocks = ap (λ n. take n (block ∷ other ∷ blocks)) (one_less (suc (length blocks))) ∙ ap (λ n. block ∷ take n (other ∷ blocks)) (sym (one_less (length blocks)))

joined : (a b c : ℕ) → a + (b + c) ≡ (a + b) + c
joined a b c = omega arith

one_is : (a b : FileBlock) → Some a ≡ Some b → a ≡ b
one_is a b e = cc

pub length_split : (blocks : List FileBlock) (last : FileBlock) → last_of blocks ≡ Some last → length_of (but_last blocks) + unwrap_or last.committed 0 ≡ length_of blocks
length_split [] last h = cc
length_split (block ∷ []) last h = omega (arith, ap (λ (own : FileBlock). unwrap_or own.committed 0) (one_is block last h))
length_split (block ∷ other ∷ blocks) last h =
    ap (λ l. length_of l + unwrap_or last.committed 0) (front_behind block other blocks)
    ∙ sym (joined (unwrap_or block.committed 0) (length_of (but_last (other ∷ blocks))) (unwrap_or last.committed 0))
    ∙ ap (λ n. unwrap_or block.committed 0 + n) (length_split (other ∷ blocks) last (sym (last_behind block other blocks) ∙ h))

-- a block at the end is the last
pub all_but_new : (blocks : List FileBlock) (block : FileBlock) → but_last (blocks ++ block ∷ []) ≡ blocks
all_but_new [] block = refl
all_but_new (own ∷ []) block = refl
all_but_new (own ∷ other ∷ blocks) block = front_behind own other (blocks ++ block ∷ []) ∙ ap (λ l. own ∷ l) (all_but_new (other ∷ blocks) block)

-- another block in the place of the last

module _ (block : FileBlock) where
  pub length_stays : (blocks : List FileBlock) (place : ℕ) → length (slice_set blocks place block) ≡ length blocks
  length_stays [] place = refl
  length_stays (own ∷ blocks) zero = refl
  length_stays (own ∷ blocks) (suc place) = ap suc (length_stays blocks place)

  before_stays : (n place : ℕ) (blocks : List FileBlock) → n ≤ place → take n (slice_set blocks place block) ≡ take n blocks
  before_stays zero place blocks h = refl
  before_stays (suc n) zero blocks h = absurd (omega (arith, h))
  before_stays (suc n) (suc place) [] h = refl
  before_stays (suc n) (suc place) (own ∷ blocks) h = ap (λ l. own ∷ l) (before_stays n place blocks (omega (arith, h)))

  front_set : (n place : ℕ) (blocks : List FileBlock) → take n (slice_set blocks place block) ≡ slice_set (take n blocks) place block
  front_set zero place blocks = refl
  front_set (suc n) place [] = refl
  front_set (suc n) zero (own ∷ blocks) = refl
  front_set (suc n) (suc place) (own ∷ blocks) = ap (λ l. own ∷ l) (front_set n place blocks)

  length_grows : (blocks : List FileBlock) (place : ℕ) (before : FileBlock) → slice_get blocks place ≡ Some before → before.committed ≡ None → length_of (slice_set blocks place block) ≡ length_of blocks + unwrap_or block.committed 0
  length_grows [] place before h none = cc
  length_grows (own ∷ blocks) zero before h none = omega (arith, ap (λ (b : FileBlock). unwrap_or b.committed 0) (one_is own before h) ∙ ap (λ c. unwrap_or c 0) none)
  length_grows (own ∷ blocks) (suc place) before h none = omega (arith, length_grows blocks place before h none)

pub get_is : (blocks : List FileBlock) (place : ℕ) (before : FileBlock) → place < length blocks → before ≡ get_or blocks place before → slice_get blocks place ≡ Some before
get_is [] place before h e = absurd (omega (arith, h))
get_is (own ∷ blocks) zero before h e = ap Some (sym e)
get_is (own ∷ blocks) (suc place) before h e = get_is blocks place before (omega (arith, h)) e

in_front : (blocks : List FileBlock) (n place : ℕ) → place < n → slice_get (take n blocks) place ≡ slice_get blocks place
in_front [] zero place h = refl
in_front [] (suc n) place h = refl
in_front (own ∷ blocks) zero place h = absurd (omega (arith, h))
in_front (own ∷ blocks) (suc n) zero h = refl
in_front (own ∷ blocks) (suc n) (suc place) h = in_front blocks n place (omega (arith, h))

pub front_stays : (blocks : List FileBlock) (place : ℕ) (block : FileBlock) → length blocks ≤ place + 1 → but_last (slice_set blocks place block) ≡ but_last blocks
front_stays blocks place block h =
    ap (λ n. take (n - 1) (slice_set blocks place block)) (length_stays block blocks place) ∙ before_stays block (length blocks - 1) place blocks (omega (arith, h))

-- a length more before the last
pub front_grows : (blocks : List FileBlock) (place : ℕ) (block before : FileBlock) → place + 1 < length blocks → slice_get blocks place ≡ Some before → before.committed ≡ None → length_of (but_last (slice_set blocks place block)) ≡ length_of (but_last blocks) + unwrap_or block.committed 0
front_grows blocks place block before h here none =
    ap (λ n. length_of (take (n - 1) (slice_set blocks place block))) (length_stays block blocks place)
    ∙ (ap length_of (front_set block (length blocks - 1) place blocks)
    ∙ length_grows block (but_last blocks) place before (in_front blocks (length blocks - 1) place (omega (arith, h)) ∙ here) none)

-- the same block in its place
pub same_stays : (blocks : List FileBlock) (place : ℕ) (block : FileBlock) → slice_get blocks place ≡ Some block → slice_set blocks place block ≡ blocks
same_stays [] place block h = cc
same_stays (own ∷ blocks) zero block h = ap (λ b. b ∷ blocks) (sym (one_is own block h))
same_stays (own ∷ blocks) (suc place) block h = ap (λ l. own ∷ l) (same_stays blocks place block h)
