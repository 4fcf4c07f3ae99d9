-- How many rows pass a test, of those that a change leaves beside those before it.
use Rattle.std.proofs.Common.{◌≡◌, ℕ, ◌+◌, Bool, true, false, ◌&&◌, List, [], ◌∷◌, ◌++◌, map, filter, length, not, Ordering, Less, Equal, Greater, arith, refl, sym, ap, ◌∙◌, cond}
use Rattle.std.proofs.lemmas.List.Elements.{filter-append}
use Rattle.std.proofs.lemmas.List.{length-append}
use Rattle.std.specs.List.{list_all}
use Rattle.std.specs.Ordering.{is_lt, is_gt}
use Rattle.file_paths.specs.Path.{is_prefix}
use Rattle.file_paths.specs.PathOrder.{path_cmp}
use Rattle.namespace_rows.specs.declared.row.Row.{Row}
use Rattle.namespace_rows.specs.Rows.{is_before, is_beyond, rows_replaced}
use Rattle.namespace_rows.specs.Changes.{rows_under, without}
use Rattle.namespace_rows.proofs.Tests.{both}
use Rattle.namespace_rows.proofs.PathOrders.{starts_upto, tied_starts}

abbrev pub count : (Row → Bool) → List Row → ℕ
count p rows = length (filter p rows)

abbrev pub bit : Bool → ℕ
bit true = 1
bit false = 0

differ : true ≡ false → ⊥
differ e = cc

module _ (p : Row → Bool) where
  pub count_append : (xs ys : List Row) → count p (xs ++ ys) ≡ count p xs + count p ys
  count_append xs ys = ap length (filter-append p xs ys) ∙ length-append (filter p xs) (filter p ys)

  pub count_head : (row : Row) (rows : List Row) → count p (row ∷ rows) ≡ bit (p row) + count p rows
  count_head row rows = by (p row)
    where
      by : (b : Bool) → length (cond b (row ∷ filter p rows) (filter p rows)) ≡ bit b + count p rows
      by true = omega arith
      by false = omega arith

  pub count_map : (f : Row → Row) → ((row : Row) → p (f row) ≡ p row) → (rows : List Row) → count p (map f rows) ≡ count p rows
  count_map f h [] = refl
  count_map f h (row ∷ rows) = count_head (f row) (map f rows) ∙ (ap (λ b. bit b + count p (map f rows)) (h row) ∙ (ap (λ n. bit (p row) + n) (count_map f h rows) ∙ sym (count_head row rows)))

  -- those that pass another test too
  pub count_kept : (q : Row → Bool) (row : Row) (rows : List Row) → count p (filter q (row ∷ rows)) ≡ bit (q row && p row) + count p (filter q rows)
  count_kept q row rows = by (q row)
    where
      by : (b : Bool) → count p (cond b (row ∷ filter q rows) (filter q rows)) ≡ bit (b && p row) + count p (filter q rows)
      by true = count_head row (filter q rows)
      by false = omega arith

  pub count_none : (rows : List Row) → list_all (λ row. not (p row)) rows ≡ true → count p rows ≡ 0
  count_none [] h = refl
  count_none (row ∷ rows) h = by (p row) (both (not (p row)) (list_all (λ row. not (p row)) rows) h).0 (count_none rows (both (not (p row)) (list_all (λ row. not (p row)) rows) h).1)
    where
      by : (b : Bool) → not b ≡ true → count p rows ≡ 0 → length (cond b (row ∷ filter p rows) (filter p rows)) ≡ 0
      by true e rest = cc
      by false e rest = rest

  add2 : (ha hb hp ca cb cp la lb lp : ℕ) → la ≡ ha + ca → lb ≡ hb + cb → lp ≡ hp + cp → ha + hb ≡ hp → ca + cb ≡ cp → la + lb ≡ lp
  add2 ha hb hp ca cb cp la lb lp a b c h r = omega (arith, a, b, c, h, r)

  add3 : (ha hb hc hp ca cb cc_ cp la lb lc lp : ℕ) → la ≡ ha + ca → lb ≡ hb + cb → lc ≡ hc + cc_ → lp ≡ hp + cp → ha + hb + hc ≡ hp → ca + cb + cc_ ≡ cp → la + lb + lc ≡ lp
  add3 ha hb hc hp ca cb cc_ cp la lb lc lp a b c d h r = omega (arith, a, b, c, d, h, r)

  -- each row passes one of two tests, or of three
  pub count_two : (q : Row → Bool) (rows : List Row) → count p (filter q rows) + count p (filter (λ row. not (q row)) rows) ≡ count p rows
  count_two q [] = refl
  count_two q (row ∷ rows) =
      add2 (bit (q row && p row)) (bit (not (q row) && p row)) (bit (p row)) (count p (filter q rows)) (count p (filter (λ row. not (q row)) rows)) (count p rows) _ _ _
      (count_kept q row rows) (count_kept (λ row. not (q row)) row rows) (count_head row rows) (one (q row) (p row)) (count_two q rows)
    where
      one : (a b : Bool) → bit (a && b) + bit (not a && b) ≡ bit b
      one true true = refl
      one true false = refl
      one false true = refl
      one false false = refl

  abbrev IsOne : Bool → Bool → Bool → Type 0
  IsOne a b c = bit a + bit b + bit c ≡ 1

  one_passes : (a b c d : Bool) → IsOne a b c → bit (a && d) + bit (b && d) + bit (c && d) ≡ bit d
  one_passes true true c d h = absurd (omega (arith, h))
  one_passes true false true d h = absurd (omega (arith, h))
  one_passes true false false true h = refl
  one_passes true false false false h = refl
  one_passes false true true d h = absurd (omega (arith, h))
  one_passes false true false true h = refl
  one_passes false true false false h = refl
  one_passes false false true true h = refl
  one_passes false false true false h = refl
  one_passes false false false d h = absurd (omega (arith, h))

  count_three : (q r s : Row → Bool) → ((row : Row) → IsOne (q row) (r row) (s row)) → (rows : List Row)
      → count p (filter q rows) + count p (filter r rows) + count p (filter s rows) ≡ count p rows
  count_three q r s h [] = refl
  count_three q r s h (row ∷ rows) =
      add3 (bit (q row && p row)) (bit (r row && p row)) (bit (s row && p row)) (bit (p row)) (count p (filter q rows)) (count p (filter r rows)) (count p (filter s rows)) (count p rows) _ _ _ _
      (count_kept q row rows) (count_kept r row rows) (count_kept s row rows) (count_head row rows) (one_passes (q row) (r row) (s row) (p row) (h row)) (count_three q r s h rows)

  -- a row stands before a path, at or beneath it, or beyond
  one_side : (o : Ordering) (b : Bool) → (b ≡ true → is_gt o ≡ false) → (o ≡ Equal → b ≡ true) → IsOne (is_gt o) b (is_lt o && not b)
  one_side Less true upto tied = refl
  one_side Less false upto tied = refl
  one_side Equal true upto tied = refl
  one_side Equal false upto tied = absurd (differ (sym (tied refl)))
  one_side Greater true upto tied = absurd (differ (upto refl))
  one_side Greater false upto tied = refl

  pub count_replaced : (path : List (List ℕ)) (block rows : List Row) → count p (rows_replaced path block rows) + count p (rows_under path rows) ≡ count p block + count p rows
  count_replaced path block rows =
      total (count p (filter (is_before path) rows)) (count p block) (count p (filter (is_beyond path) rows)) (count p (rows_under path rows)) (count p rows) (count p (block ++ filter (is_beyond path) rows)) _
      (count_append (filter (is_before path) rows) (block ++ filter (is_beyond path) rows)) (count_append block (filter (is_beyond path) rows))
      (count_three (is_before path) (λ row. is_prefix path row.path) (is_beyond path) (λ row. one_side (path_cmp path row.path) (is_prefix path row.path) (starts_upto path row.path) (tied_starts path row.path)) rows)
    where
      total : (before block beyond under all rest whole : ℕ) → whole ≡ before + rest → rest ≡ block + beyond → before + under + beyond ≡ all → whole + under ≡ block + all
      total before block beyond under all rest whole a b c = omega (arith, a, b, c)

  pub count_without : (path : List (List ℕ)) (rows : List Row) → count p (without path rows) + count p (rows_under path rows) ≡ count p rows
  count_without path rows = total _ _ _ (count_two (λ row. is_prefix path row.path) rows)
    where
      total : (a b c : ℕ) → b + a ≡ c → a + b ≡ c
      total a b c h = omega (arith, h)
