-- Sums over the files of rows, through each change of the rows.
use Rattle.std.proofs.Common.{◌≡◌, ℕ, ◌+◌, ◌-◌, ◌≤◌, Bool, true, false, ◌&&◌, not, List, [], ◌∷◌, ◌++◌, map, filter, length, drop, cond, Option, Some, None, refl, sym, ap, ◌∙◌, subst, Ordering, Less, Equal, Greater, is_gt, is_lt, arith}
use Rattle.std.proofs.lemmas.List.{take-append-drop}
use Rattle.std.specs.Ordering.{is_eq}
use Rattle.file_paths.specs.Path.{is_prefix}
use Rattle.file_paths.specs.PathOrder.{path_cmp, same_path}
use Rattle.namespace_rows.specs.declared.file_row.FileRow.{FileRow}
use Rattle.namespace_rows.specs.declared.row.Row.{Row}
use Rattle.namespace_rows.specs.declared.row.Change.{Change}
use Rattle.namespace_rows.specs.First.{first}
use Rattle.namespace_rows.specs.Rows.{is_missing, row_at, ancestor, is_before, is_beyond, rows_replaced}
use Rattle.namespace_rows.specs.Namespace.{IsNamespace, is_ascending, is_before_all}
use Rattle.namespace_rows.proofs.Tests.{both, all_kept}
use Rattle.namespace_rows.proofs.PathOrders.{same_path_is, less_is, starts_upto, tied_starts}
use Rattle.namespace_rows.specs.Changes.{rows_under, without, moved_row, with_rows_moved, with_change, row_rewritten}
use Rattle.flat_rows.specs.Outcome.{new_rows, new_row, mode_of_new, file_of_new, with_new}
use Rattle.flat_rows.proofs.NewDirectories.{beneath_parts, ancestor_above}
use Rattle.history.proofs.Apart.{missing_apart, none_under, under_top}

differ : true ≡ false → ⊥
differ e = cc

-- what each row counts, by its file
abbrev pub Count : Type 0
Count = Option FileRow → ℕ

abbrev pub sum_files : Count → List Row → ℕ
sum_files c [] = 0
sum_files c (row ∷ rows) = c row.file + sum_files c rows

-- a test as a count
abbrev pub once : Bool → ℕ
once b = cond b 1 0

two : (a b c : ℕ) → a + (b + c) ≡ (a + b) + c
two a b c = omega arith

pub none_both : (a b : ℕ) → a + b ≡ 0 → (a ≡ 0) × (b ≡ 0)
none_both a b h = (omega (arith, h), omega (arith, h))

both_less : (a b c d : ℕ) → a ≤ b → c ≤ d → a + c ≤ b + d
both_less a b c d h k = omega (arith, h, k)

pub sum_same : (c d : Count) → ((its : Option FileRow) → c its ≡ d its) → (rows : List Row) → sum_files c rows ≡ sum_files d rows
sum_same c d h [] = refl
sum_same c d h (row ∷ rows) = ap (λ n. n + sum_files c rows) (h row.file) ∙ ap (λ n. d row.file + n) (sum_same c d h rows)

pub sum_less : (c d : Count) → ((its : Option FileRow) → c its ≤ d its) → (rows : List Row) → sum_files c rows ≤ sum_files d rows
sum_less c d h [] = omega arith
sum_less c d h (row ∷ rows) = both_less (c row.file) (d row.file) (sum_files c rows) (sum_files d rows) (h row.file) (sum_less c d h rows)

-- where each file is of no weight in one sum, two others agree
pub sum_given : (g c d : Count) → ((its : Option FileRow) → g its ≡ 0 → c its ≡ d its) → (rows : List Row) → sum_files g rows ≡ 0 → sum_files c rows ≡ sum_files d rows
sum_given g c d h [] none = refl
sum_given g c d h (row ∷ rows) none =
    let parts = none_both (g row.file) (sum_files g rows) none in
    ap (λ n. n + sum_files c rows) (h row.file parts.0) ∙ ap (λ n. d row.file + n) (sum_given g c d h rows parts.1)

pub sum_plus : (c d : Count) (rows : List Row) → sum_files (λ its. c its + d its) rows ≡ sum_files c rows + sum_files d rows
sum_plus c d [] = refl
sum_plus c d (row ∷ rows) = ap (λ n. (c row.file + d row.file) + n) (sum_plus c d rows) ∙ crossed (c row.file) (d row.file) (sum_files c rows) (sum_files d rows)
  where
    crossed : (a b m n : ℕ) → (a + b) + (m + n) ≡ (a + m) + (b + n)
    crossed a b m n = omega arith

pub sum_neither : (c d : Count) (rows : List Row) → sum_files c rows ≡ 0 → sum_files d rows ≡ 0 → sum_files (λ its. c its + d its) rows ≡ 0
sum_neither c d rows h k = sum_plus c d rows ∙ (ap (λ n. n + sum_files d rows) h ∙ ap (λ n. 0 + n) k)

-- what one count leaves of another
abbrev pub spare : Count → Count → Count
spare part whole its = whole its - part its

pub sum_spared : (g part whole : Count) → ((its : Option FileRow) → g its ≡ 0 → part its ≤ whole its) → (rows : List Row) → sum_files g rows ≡ 0
    → sum_files part rows + sum_files (spare part whole) rows ≡ sum_files whole rows
sum_spared g part whole h rows none =
    sym (sum_plus part (spare part whole) rows) ∙ sum_given g (λ its. part its + spare part whole its) whole (λ its zero. sum (part its) (whole its) (h its zero)) rows none
  where
    sum : (a b : ℕ) → a ≤ b → a + (b - a) ≡ b
    sum a b le = omega (arith, le)

-- where one file passes a test, its worth is the sum
pub sum_one : (test : Option FileRow → Bool) (worth : ℕ) (rows : List Row) → sum_files (λ its. once (test its)) rows ≡ 1 → sum_files (λ its. cond (test its) worth 0) rows ≡ worth
sum_one test worth [] h = cc
sum_one test worth (row ∷ rows) h = by (test row.file) h (sum_one test worth rows)
  where
    less : (n : ℕ) → 1 + n ≡ 1 → n ≡ 0
    less n h = omega (arith, h)

    more : (n : ℕ) → 0 + n ≡ 1 → n ≡ 1
    more n h = omega (arith, h)

    nothing : (a b : ℕ) → b ≡ 0 → a + b ≡ a
    nothing a b h = omega (arith, h)

    none : (b : Bool) → once b ≡ 0 → cond b worth 0 ≡ 0
    none true h = cc
    none false h = refl

    by : (b : Bool) → once b + sum_files (λ its. once (test its)) rows ≡ 1 → (sum_files (λ its. once (test its)) rows ≡ 1 → sum_files (λ its. cond (test its) worth 0) rows ≡ worth)
        → cond b worth 0 + sum_files (λ its. cond (test its) worth 0) rows ≡ worth
    by true k rest =
        nothing worth (sum_files (λ its. cond (test its) worth 0) rows)
        (sum_given (λ its. once (test its)) (λ its. cond (test its) worth 0) (λ its. once (test its)) (λ its zero. none (test its) zero ∙ sym zero) rows (less (sum_files (λ its. once (test its)) rows) k)
        ∙ less (sum_files (λ its. once (test its)) rows) k)
    by false k rest = ap (λ n. 0 + n) (rest (more (sum_files (λ its. once (test its)) rows) k)) ∙ front worth
      where
        front : (n : ℕ) → 0 + n ≡ n
        front n = omega arith

-- files given anew
pub sum_through : (c : Count) (f : Row → Row) (k : Option FileRow → Option FileRow) → ((row : Row) → (f row).file ≡ k row.file) → (rows : List Row) → sum_files c (map f rows) ≡ sum_files (λ its. c (k its)) rows
sum_through c f k h [] = refl
sum_through c f k h (row ∷ rows) = ap (λ its. c its + sum_files c (map f rows)) (h row) ∙ ap (λ n. c (k row.file) + n) (sum_through c f k h rows)

module _ (c : Count) where
  pub sum_append : (xs ys : List Row) → sum_files c (xs ++ ys) ≡ sum_files c xs + sum_files c ys
  sum_append [] ys = omega arith
  sum_append (x ∷ xs) ys = ap (λ n. c x.file + n) (sum_append xs ys) ∙ two (c x.file) (sum_files c xs) (sum_files c ys)

  -- rows whose files count the same
  pub sum_map : (f : Row → Row) → ((row : Row) → c (f row).file ≡ c row.file) → (rows : List Row) → sum_files c (map f rows) ≡ sum_files c rows
  sum_map f h [] = refl
  sum_map f h (row ∷ rows) = ap (λ n. n + sum_files c (map f rows)) (h row) ∙ ap (λ n. c row.file + n) (sum_map f h rows)

  pub sum_rewritten : (path : List (List ℕ)) (what : Change) → ((row : Row) → c (with_change what row).file ≡ c row.file) → (rows : List Row) → sum_files c (row_rewritten path what rows) ≡ sum_files c rows
  sum_rewritten path what h rows = sum_map (λ row. cond (same_path path row.path) (with_change what row) row) (λ row. by row (same_path path row.path)) rows
    where
      by : (row : Row) (b : Bool) → c (cond b (with_change what row) row).file ≡ c row.file
      by row true = h row
      by row false = refl

  -- ---- parts of the rows

  module _ (path : List (List ℕ)) where
    first_of_two : (a b c d : ℕ) → b + c ≡ d → (a + b) + c ≡ a + d
    first_of_two a b c d h = omega (arith, h)

    second_of_two : (a b c d : ℕ) → b + c ≡ d → b + (a + c) ≡ a + d
    second_of_two a b c d h = omega (arith, h)

    pub sum_without : (rows : List Row) → sum_files c (rows_under path rows) + sum_files c (without path rows) ≡ sum_files c rows
    sum_without [] = refl
    sum_without (row ∷ rows) = by (is_prefix path row.path) (sum_without rows)
      where
        by : (b : Bool) → sum_files c (rows_under path rows) + sum_files c (without path rows) ≡ sum_files c rows
            → sum_files c (cond b (row ∷ rows_under path rows) (rows_under path rows)) + sum_files c (cond (not b) (row ∷ without path rows) (without path rows)) ≡ sum_files c (row ∷ rows)
        by true rest = first_of_two (c row.file) (sum_files c (rows_under path rows)) (sum_files c (without path rows)) (sum_files c rows) rest
        by false rest = second_of_two (c row.file) (sum_files c (rows_under path rows)) (sum_files c (without path rows)) (sum_files c rows) rest

    before_all : (a b c d e : ℕ) → (b + c) + d ≡ e → ((a + b) + c) + d ≡ a + e
    before_all a b c d e h = omega (arith, h)

    under_all : (a b c d e : ℕ) → (b + c) + d ≡ e → (b + (a + c)) + d ≡ a + e
    under_all a b c d e h = omega (arith, h)

    beyond_all : (a b c d e : ℕ) → (b + c) + d ≡ e → (b + c) + (a + d) ≡ a + e
    beyond_all a b c d e h = omega (arith, h)

    -- before the path, at or beneath it, and beyond
    sum_parted : (rows : List Row) → (sum_files c (filter (is_before path) rows) + sum_files c (rows_under path rows)) + sum_files c (filter (is_beyond path) rows) ≡ sum_files c rows
    sum_parted [] = refl
    sum_parted (row ∷ rows) =
        by (path_cmp path row.path) (is_prefix path row.path) (starts_upto path row.path) (tied_starts path row.path) (filter (is_before path) rows) (rows_under path rows) (filter (is_beyond path) rows) (sum_parted rows)
      where
        by : (o : Ordering) (s : Bool) → (s ≡ true → is_gt o ≡ false) → (o ≡ Equal → s ≡ true) → (lows unders highs : List Row)
            → (sum_files c lows + sum_files c unders) + sum_files c highs ≡ sum_files c rows
            → (sum_files c (cond (is_gt o) (row ∷ lows) lows) + sum_files c (cond s (row ∷ unders) unders)) + sum_files c (cond (is_lt o && not s) (row ∷ highs) highs) ≡ sum_files c (row ∷ rows)
        by Less true upto tied lows unders highs rest = under_all (c row.file) (sum_files c lows) (sum_files c unders) (sum_files c highs) (sum_files c rows) rest
        by Less false upto tied lows unders highs rest = beyond_all (c row.file) (sum_files c lows) (sum_files c unders) (sum_files c highs) (sum_files c rows) rest
        by Equal true upto tied lows unders highs rest = under_all (c row.file) (sum_files c lows) (sum_files c unders) (sum_files c highs) (sum_files c rows) rest
        by Equal false upto tied lows unders highs rest = absurd (differ (sym (tied refl)))
        by Greater true upto tied lows unders highs rest = absurd (differ (upto refl))
        by Greater false upto tied lows unders highs rest = before_all (c row.file) (sum_files c lows) (sum_files c unders) (sum_files c highs) (sum_files c rows) rest

    pub sum_replaced : (block rows : List Row) → sum_files c (rows_replaced path block rows) + sum_files c (rows_under path rows) ≡ sum_files c block + sum_files c rows
    sum_replaced block rows =
        sum (sum_files c (filter (is_before path) rows)) (sum_files c block) (sum_files c (filter (is_beyond path) rows)) (sum_files c (rows_under path rows)) (sum_files c rows) (sum_files c (block ++ filter (is_beyond path) rows)) (sum_files c (rows_replaced path block rows))
        (sum_append (filter (is_before path) rows) (block ++ filter (is_beyond path) rows)) (sum_append block (filter (is_beyond path) rows)) (sum_parted rows)
      where
        sum : (before block beyond under all rest whole : ℕ) → whole ≡ before + rest → rest ≡ block + beyond → (before + under) + beyond ≡ all → whole + under ≡ block + all
        sum before block beyond under all rest whole a b c = omega (arith, a, b, c)

  -- ---- what moves, and what is made

  pub sum_moved : (from to : List (List ℕ)) (rows : List Row) → IsNamespace rows → is_missing to rows ≡ true → sum_files c (with_rows_moved from to rows) ≡ sum_files c rows
  sum_moved from to rows namespace missing =
      let block : List Row = map (moved_row from to) (rows_under from rows) in
      let free : rows_under to (without from rows) ≡ [] = none_under to (without from rows) (all_kept (λ row. not (is_prefix from row.path)) (λ row. not (is_prefix to row.path)) rows (missing_apart rows to namespace missing)) in
      sum (sum_files c (with_rows_moved from to rows)) (sum_files c (rows_under to (without from rows))) (sum_files c block) (sum_files c (without from rows)) (sum_files c (rows_under from rows)) (sum_files c rows)
      (sum_replaced to block (without from rows)) (ap (sum_files c) free) (sum_map (moved_row from to) (λ row. refl) (rows_under from rows)) (sum_without from rows)
    where
      sum : (a b c d e f : ℕ) → a + b ≡ c + d → b ≡ 0 → c ≡ e → e + d ≡ f → a ≡ f
      sum a b c d e f g h i j = omega (arith, g, h, i, j)

  module _ (none : c None ≡ 0) where
    sum_made : (owner : List ℕ) (mode : ℕ) (its : Option FileRow) (above : Row) (name : List ℕ) (names : List (List ℕ)) → sum_files c (new_rows above owner mode its (name ∷ names)) ≡ c its
    sum_made owner mode its above name [] = nothing (c its)
      where
        nothing : (n : ℕ) → n + 0 ≡ n
        nothing n = omega arith
    sum_made owner mode its above name (next ∷ names) =
        ap (λ n. n + sum_files c (new_rows made owner mode its (next ∷ names))) none ∙ (nothing (sum_files c (new_rows made owner mode its (next ∷ names))) ∙ sum_made owner mode its made next names)
      where
        made : Row
        made = new_row above owner (mode_of_new mode (next ∷ names)) (file_of_new its (next ∷ names)) name

        nothing : (n : ℕ) → 0 + n ≡ n
        nothing n = omega arith

    -- something made at a path takes the place of what is there
    pub sum_new : (path : List (List ℕ)) (mode : ℕ) (its : Option FileRow) (owner : List ℕ) (rows : List Row) (above : Row) → IsNamespace rows → ancestor path rows ≡ Some above
        → sum_files c (with_new path mode its owner (Some above) rows) + sum_files c (rows_under path rows) ≡ c its + sum_files c rows
    sum_new path mode its owner rows above namespace found =
        let parts = beneath_parts path above.path (ancestor_above path rows above found) in
        let whole : path ≡ above.path ++ parts.name ∷ parts.names = sym (take-append-drop (length above.path) path) ∙ (ap (λ t. t ++ drop (length above.path) path) parts.front ∙ ap (λ t. above.path ++ t) parts.left) in
        let top : List (List ℕ) = above.path ++ parts.name ∷ [] in
        let block : List Row = new_rows above owner mode its (parts.name ∷ parts.names) in
        rw parts.left
        (sum (sum_files c (rows_replaced top block rows)) (sum_files c (rows_under top rows)) (sum_files c (rows_under path rows)) (sum_files c block) (sum_files c rows) (c its)
        (sum_replaced top block rows) (ap (sum_files c) (under_top path rows above parts.name parts.names namespace found whole)) (sum_made owner mode its above parts.name parts.names))
      where
        sum : (new top under block all one : ℕ) → new + top ≡ block + all → top ≡ under → block ≡ one → new + under ≡ one + all
        sum new top under block all one h i j = omega (arith, h, i, j)

-- ---- one row given anew

pub one_row : (x y : Row) → Some x ≡ Some y → x ≡ y
one_row x y e = cc

module _ (path : List (List ℕ)) (f : Row → Row) where
  abbrev pub anew : Row → Row
  anew row = cond (same_path path row.path) (f row) row

  -- behind the row of the path there is none other of it
  behind : (row : Row) (rows : List Row) → same_path path row.path ≡ true → is_before_all row rows ≡ true → map anew rows ≡ rows
  behind row [] at low = refl
  behind row (other ∷ rows) at low =
      let lows = both (is_lt (path_cmp row.path other.path)) (is_before_all row rows) low in
      let apart : same_path path other.path ≡ false = ap (λ t. same_path t other.path) (same_path_is path row.path at) ∙ ap is_eq (less_is _ lows.0) in
      ap (λ b. cond b (f other) other ∷ map anew rows) apart ∙ ap (λ rest. other ∷ rest) (behind row rows at lows.1)

  pub sum_anew : (c : Count) (rows : List Row) (row : Row) → is_ascending rows ≡ true → row_at path rows ≡ Some row → sum_files c (map anew rows) + c row.file ≡ sum_files c rows + c (f row).file
  sum_anew c [] row up at = cc
  sum_anew c (r ∷ rows) row up at =
      let ups = both (is_before_all r rows) (is_ascending rows) up in
      by (same_path path r.path) refl at (λ e. behind r rows e ups.0) (λ k. sum_anew c rows row ups.1 k)
    where
      here : (a b n : ℕ) → (b + n) + a ≡ (a + n) + b
      here a b n = omega arith

      later : (a b c d e : ℕ) → c + b ≡ d + e → (a + c) + b ≡ (a + d) + e
      later a b c d e h = omega (arith, h)

      by : (b : Bool) → same_path path r.path ≡ b → first (cond b (r ∷ filter (λ other. same_path path other.path) rows) (filter (λ other. same_path path other.path) rows)) ≡ Some row
          → (same_path path r.path ≡ true → map anew rows ≡ rows) → (row_at path rows ≡ Some row → sum_files c (map anew rows) + c row.file ≡ sum_files c rows + c (f row).file)
          → sum_files c (cond b (f r) r ∷ map anew rows) + c row.file ≡ sum_files c (r ∷ rows) + c (f row).file
      by true e at low rest =
          subst (λ (x : Row). sum_files c (f r ∷ map anew rows) + c x.file ≡ sum_files c (r ∷ rows) + c (f x).file) (one_row r row at)
          (ap (λ some. sum_files c (f r ∷ some) + c r.file) (low e) ∙ here (c r.file) (c (f r).file) (sum_files c rows))
      by false e at low rest = later (c r.file) (c row.file) (sum_files c (map anew rows)) (sum_files c rows) (c (f row).file) (rest at)

-- what stands at the path is a part of the rows
pub part : (c : Count) (path : List (List ℕ)) (rows : List Row) (row : Row) → row_at path rows ≡ Some row → c row.file ≤ sum_files c rows
part c path [] row at = cc
part c path (r ∷ rows) row at = by (same_path path r.path) at (part c path rows row)
  where
    here : (a b : ℕ) → a ≤ a + b
    here a b = omega arith

    later : (a b c : ℕ) → a ≤ c → a ≤ b + c
    later a b c h = omega (arith, h)

    by : (b : Bool) → first (cond b (r ∷ filter (λ other. same_path path other.path) rows) (filter (λ other. same_path path other.path) rows)) ≡ Some row
        → (row_at path rows ≡ Some row → c row.file ≤ sum_files c rows) → c row.file ≤ sum_files c (r ∷ rows)
    by true at rest = subst (λ (x : Row). c x.file ≤ sum_files c (r ∷ rows)) (one_row r row at) (here (c r.file) (sum_files c rows))
    by false at rest = later (c row.file) (c r.file) (sum_files c rows) (rest at)
