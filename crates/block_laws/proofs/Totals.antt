-- Sums over the blocks of files.
use Rattle.std.proofs.Common.{◌≡◌, ℕ, ◌+◌, ◌≤◌, ◌==◌, Bool, true, false, ◌||◌, List, [], ◌∷◌, ◌++◌, map, filter, length, cond, Option, Some, None, refl, ap, ◌∙◌, arith}
use Rattle.std.proofs.lemmas.Bool.{eq-eqb}
use Rattle.std.proofs.lemmas.List.Elements.{filter-append}
use Rattle.std.proofs.lemmas.List.{length-append}
use Rattle.block_records.specs.Numbers.{has_number}
use Rattle.file_blocks.specs.declared.blocks.FileBlock.{FileBlock}
use Rattle.namespace_rows.specs.declared.file_row.FileRow.{FileRow}
use Rattle.namespace_rows.specs.declared.row.Row.{Row}
use Rattle.namespace_rows.specs.Files.{ids_in, blocks_in}
use Rattle.flat_rows.specs.BlockOutcome as file
use Rattle.block_laws.specs.Laws.{times}
use Rattle.block_laws.proofs.Sums.{Count, sum_files, sum_same, sum_less}

abbrev pub bit : Bool → ℕ
bit true = 1
bit false = 0

-- what each block counts
abbrev pub Weight : Type 0
Weight = FileBlock → ℕ

abbrev pub total : Weight → List FileBlock → ℕ
total w [] = 0
total w (block ∷ blocks) = w block + total w blocks

abbrev pub own : Row → List FileBlock
own row = file.blocks_of_file row.file

-- what each file counts by its blocks
abbrev pub by_blocks : Weight → Count
by_blocks w its = total w (file.blocks_of_file its)

abbrev pub in_rows : Weight → List Row → ℕ
in_rows w rows = sum_files (by_blocks w) rows

-- how often a number stands
abbrev pub has : ℕ → Weight
has number block = bit (block.id == number)

-- ---- sums

two : (a b c : ℕ) → a + (b + c) ≡ (a + b) + c
two a b c = omega arith

both_less : (a b c d : ℕ) → a ≤ b → c ≤ d → a + c ≤ b + d
both_less a b c d h k = omega (arith, h, k)

pub total_append : (w : Weight) (xs ys : List FileBlock) → total w (xs ++ ys) ≡ total w xs + total w ys
total_append w [] ys = omega arith
total_append w (x ∷ xs) ys = ap (λ n. w x + n) (total_append w xs ys) ∙ two (w x) (total w xs) (total w ys)

pub total_same : (w v : Weight) → ((block : FileBlock) → w block ≡ v block) → (blocks : List FileBlock) → total w blocks ≡ total v blocks
total_same w v h [] = refl
total_same w v h (block ∷ blocks) = ap (λ n. n + total w blocks) (h block) ∙ ap (λ n. v block + n) (total_same w v h blocks)

pub total_less : (w v : Weight) → ((block : FileBlock) → w block ≤ v block) → (blocks : List FileBlock) → total w blocks ≤ total v blocks
total_less w v h [] = omega arith
total_less w v h (block ∷ blocks) = both_less (w block) (v block) (total w blocks) (total v blocks) (h block) (total_less w v h blocks)

pub rows_same : (w v : Weight) → ((block : FileBlock) → w block ≡ v block) → (rows : List Row) → in_rows w rows ≡ in_rows v rows
rows_same w v h rows = sum_same (by_blocks w) (by_blocks v) (λ its. total_same w v h (file.blocks_of_file its)) rows

pub rows_less : (w v : Weight) → ((block : FileBlock) → w block ≤ v block) → (rows : List Row) → in_rows w rows ≤ in_rows v rows
rows_less w v h rows = sum_less (by_blocks w) (by_blocks v) (λ its. total_less w v h (file.blocks_of_file its)) rows

-- ---- how often a number stands

times_append : (number : ℕ) (xs ys : List ℕ) → times number (xs ++ ys) ≡ times number xs + times number ys
times_append number xs ys = ap length (filter-append (λ other. other == number) xs ys) ∙ length-append (filter (λ other. other == number) xs) (filter (λ other. other == number) ys)

pub times_head : (number other : ℕ) (numbers : List ℕ) → times number (other ∷ numbers) ≡ bit (other == number) + times number numbers
times_head number other numbers = by (other == number)
  where
    by : (b : Bool) → length (cond b (other ∷ filter (λ n. n == number) numbers) (filter (λ n. n == number) numbers)) ≡ bit b + times number numbers
    by true = omega arith
    by false = omega arith

times_ids : (number : ℕ) (blocks : List FileBlock) → times number (map (λ (block : FileBlock). block.id) blocks) ≡ total (has number) blocks
times_ids number [] = refl
times_ids number (block ∷ blocks) = times_head number block.id (map (λ (block : FileBlock). block.id) blocks) ∙ ap (λ n. bit (block.id == number) + n) (times_ids number blocks)

times_own : (number : ℕ) (its : Option FileRow) → times number (ids_in its) ≡ total (has number) (file.blocks_of_file its)
times_own number None = refl
times_own number (Some its) = times_ids number its.blocks

pub times_in : (number : ℕ) (rows : List Row) → times number (blocks_in rows) ≡ in_rows (has number) rows
times_in number [] = refl
times_in number (row ∷ rows) =
    times_append number (ids_in row.file) (blocks_in rows)
    ∙ (ap (λ n. n + times number (blocks_in rows)) (times_own number row.file) ∙ ap (λ n. total (has number) (own row) + n) (times_in number rows))

-- a number that is there stands at least once
pub times_some : (number : ℕ) (numbers : List ℕ) → has_number number numbers ≡ true → 1 ≤ times number numbers
times_some number [] h = cc
times_some number (other ∷ numbers) h = by (other == number) refl h (times_some number numbers) (times_head number other numbers)
  where
    by : (b : Bool) → (other == number) ≡ b → (b || has_number number numbers) ≡ true → (has_number number numbers ≡ true → 1 ≤ times number numbers)
        → times number (other ∷ numbers) ≡ bit (other == number) + times number numbers → 1 ≤ times number (other ∷ numbers)
    by true e h rest head = let one : bit (other == number) ≡ 1 = ap bit e in omega (arith, one, head)
    by false e h rest head = let some : 1 ≤ times number numbers = rest h in omega (arith, some, head)

pub times_none : (number : ℕ) (numbers : List ℕ) → has_number number numbers ≡ false → times number numbers ≡ 0
times_none number [] h = refl
times_none number (other ∷ numbers) h = by (other == number) refl h (times_none number numbers) (times_head number other numbers)
  where
    by : (b : Bool) → (other == number) ≡ b → (b || has_number number numbers) ≡ false → (has_number number numbers ≡ false → times number numbers ≡ 0)
        → times number (other ∷ numbers) ≡ bit (other == number) + times number numbers → times number (other ∷ numbers) ≡ 0
    by true e h rest head = cc
    by false e h rest head = let none : times number numbers ≡ 0 = rest h in let zero : bit (other == number) ≡ 0 = ap bit e in omega (arith, none, zero, head)

-- ---- where a test picks no block

module _ (test : FileBlock → Bool) (w v : Weight) (same : (block : FileBlock) → test block ≡ false → v block ≡ w block) where
  abbrev picked : Weight
  picked block = bit (test block)

  head_and_tail : (a b : ℕ) → a + b ≡ 0 → (a ≡ 0) × (b ≡ 0)
  head_and_tail a b h = (omega (arith, h), omega (arith, h))

  unpicked : (b : Bool) → bit b ≡ 0 → b ≡ false
  unpicked true h = cc
  unpicked false h = refl

  pub total_where : (blocks : List FileBlock) → total picked blocks ≡ 0 → total v blocks ≡ total w blocks
  total_where [] h = refl
  total_where (block ∷ blocks) h =
      let parts = head_and_tail (picked block) (total picked blocks) h in
      ap (λ n. n + total v blocks) (same block (unpicked (test block) parts.0)) ∙ ap (λ n. w block + n) (total_where blocks parts.1)

  pub rows_where : (rows : List Row) → in_rows picked rows ≡ 0 → in_rows v rows ≡ in_rows w rows
  rows_where [] h = refl
  rows_where (row ∷ rows) h =
      let parts = head_and_tail (total picked (own row)) (in_rows picked rows) h in
      ap (λ n. n + in_rows v rows) (total_where (own row) parts.0) ∙ ap (λ n. total w (own row) + n) (rows_where rows parts.1)

-- ---- numbers that stand elsewhere

module _ (gone : List ℕ) where
  abbrev pub is_gone : FileBlock → Bool
  is_gone block = has_number block.id gone

  abbrev pub went : Weight
  went block = bit (is_gone block)

  itself : (n : ℕ) → (n == n) ≡ true
  itself n = eq-eqb n n refl

  total_apart : (blocks : List FileBlock) → ((number : ℕ) → times number gone + total (has number) blocks ≤ 1) → total went blocks ≡ 0
  total_apart [] h = refl
  total_apart (block ∷ blocks) h = by (is_gone block) refl (h block.id) (total_apart blocks (λ number. less (times number gone) (has number block) (total (has number) blocks) (h number)))
    where
      less : (a b c : ℕ) → a + (b + c) ≤ 1 → a + c ≤ 1
      less a b c k = omega (arith, k)

      none : (n : ℕ) → n ≡ 0 → 0 + n ≡ 0
      none n k = omega (arith, k)

      twice : (a b c : ℕ) → 1 ≤ a → b ≡ 1 → a + (b + c) ≤ 1 → ⊥
      twice a b c i j k = omega (arith, i, j, k)

      by : (b : Bool) → has_number block.id gone ≡ b → times block.id gone + total (has block.id) (block ∷ blocks) ≤ 1 → total went blocks ≡ 0 → bit b + total went blocks ≡ 0
      by true e k rest = absurd (twice (times block.id gone) (has block.id block) (total (has block.id) blocks) (times_some block.id gone e) (ap bit (itself block.id)) k)
      by false e k rest = none (total went blocks) rest

  pub rows_apart : (rows : List Row) → ((number : ℕ) → times number gone + in_rows (has number) rows ≤ 1) → in_rows went rows ≡ 0
  rows_apart [] h = refl
  rows_apart (row ∷ rows) h =
      nothing (total went (own row)) (in_rows went rows)
      (total_apart (own row) (λ number. first (times number gone) (total (has number) (own row)) (in_rows (has number) rows) (h number)))
      (rows_apart rows (λ number. second (times number gone) (total (has number) (own row)) (in_rows (has number) rows) (h number)))
    where
      nothing : (a b : ℕ) → a ≡ 0 → b ≡ 0 → a + b ≡ 0
      nothing a b h k = omega (arith, h, k)

      first : (a b c : ℕ) → a + (b + c) ≤ 1 → a + b ≤ 1
      first a b c k = omega (arith, k)

      second : (a b c : ℕ) → a + (b + c) ≤ 1 → a + c ≤ 1
      second a b c k = omega (arith, k)
