-- What has a path, once rows are kept, dropped, changed or put in a place.
use Rattle.std.proofs.Common.{◌≡◌, ℕ, Bool, true, false, ◌&&◌, ◌||◌, not, List, [], ◌∷◌, ◌++◌, Option, Some, None, map, length, drop, refl, sym, ap, ◌∙◌, cond, Ordering, Less, Equal, Greater, is_eq}
use Rattle.std.specs.Prelude.{filter}
use Rattle.std.specs.List.{list_all, list_any}
use Rattle.std.specs.Option.{option_or, option_map}
use Rattle.std.specs.Ordering.{is_gt, is_lt, ordering_then}
use Rattle.hdfs_values.specs.Text.{same, text_cmp}
use Rattle.hdfs_values.proofs.Texts.{same_is}
use Rattle.file_paths.specs.Path.{is_prefix, is_beneath}
use Rattle.file_paths.specs.PathOrder.{path_cmp, same_path}
use Rattle.namespace_rows.specs.declared.row.Row.{Row}
use Rattle.namespace_rows.specs.First.{first}
use Rattle.namespace_rows.specs.Rows.{row_at, is_before, is_beyond, rows_replaced}
use Rattle.namespace_rows.specs.Namespace.{is_ascending, is_before_all}
use Rattle.namespace_rows.proofs.Tests.{both, and, and_false}
use Rattle.namespace_rows.proofs.PathOrders.{less_is, starts_upto, tied_starts, same_path_is}
use Rattle.namespace_rows.specs.Changes.{rows_under, moved_row}
use Rattle.flat_rows.proofs.Changes.{same_self}
use Rattle.flat_rows.proofs.Moves.{front_itself, front_cmp, front_inside, front_and_rest}
use Rattle.flat_rows.proofs.Firsts.{first_found}

differ : true ≡ false → ⊥
differ e = cc

abbrev at : List (List ℕ) → Row → Bool
at path row = same_path path row.path

abbrev first_if : Bool → Row → List Row → Option Row
first_if b row rows = first (cond b (row ∷ rows) rows)

module _ (path : List (List ℕ)) where
  pub at_kept : (q : Row → Bool) (rows : List Row) → ((row : Row) → at path row ≡ true → q row ≡ true) → row_at path (filter q rows) ≡ row_at path rows
  at_kept q [] h = refl
  at_kept q (row ∷ rows) h = by (q row) (at path row) refl refl (at_kept q rows h)
    where
      by : (b c : Bool) → q row ≡ b → at path row ≡ c → row_at path (filter q rows) ≡ row_at path rows → row_at path (cond b (row ∷ filter q rows) (filter q rows)) ≡ first_if c row (filter (at path) rows)
      by true true e g rest = ap (λ c. first_if c row (filter (at path) (filter q rows))) g
      by true false e g rest = ap (λ c. first_if c row (filter (at path) (filter q rows))) g ∙ rest
      by false true e g rest = absurd (differ (sym (h row g) ∙ e))
      by false false e g rest = rest

  pub at_dropped : (q : Row → Bool) (rows : List Row) → ((row : Row) → at path row ≡ true → q row ≡ false) → row_at path (filter q rows) ≡ None
  at_dropped q [] h = refl
  at_dropped q (row ∷ rows) h = by (q row) (at path row) refl refl (at_dropped q rows h)
    where
      by : (b c : Bool) → q row ≡ b → at path row ≡ c → row_at path (filter q rows) ≡ None → row_at path (cond b (row ∷ filter q rows) (filter q rows)) ≡ None
      by true true e g rest = absurd (differ (sym e ∙ h row g))
      by true false e g rest = ap (λ c. first_if c row (filter (at path) (filter q rows))) g ∙ rest
      by false c e g rest = rest

  -- where all rows pass a test that none of the path passes
  pub at_absent : (q : Row → Bool) (rows : List Row) → list_all q rows ≡ true → ((row : Row) → at path row ≡ true → q row ≡ false) → row_at path rows ≡ None
  at_absent q [] all h = refl
  at_absent q (row ∷ rows) all h = let parts = both (q row) (list_all q rows) all in by (at path row) refl parts.0 (at_absent q rows parts.1 h)
    where
      by : (c : Bool) → at path row ≡ c → q row ≡ true → row_at path rows ≡ None → first_if c row (filter (at path) rows) ≡ None
      by true e here rest = absurd (differ (sym here ∙ h row e))
      by false e here rest = rest

  pub at_append : (xs ys : List Row) → row_at path (xs ++ ys) ≡ option_or (row_at path xs) (row_at path ys)
  at_append [] ys = refl
  at_append (row ∷ xs) ys = by (at path row) (at_append xs ys)
    where
      by : (c : Bool) → row_at path (xs ++ ys) ≡ option_or (row_at path xs) (row_at path ys) → first_if c row (filter (at path) (xs ++ ys)) ≡ option_or (first_if c row (filter (at path) xs)) (row_at path ys)
      by true rest = refl
      by false rest = rest

  pub at_map : (f : Row → Row) → ((row : Row) → (f row).path ≡ row.path) → (rows : List Row) → row_at path (map f rows) ≡ option_map f (row_at path rows)
  at_map f paths [] = refl
  at_map f paths (row ∷ rows) =
      ap (λ p. first_if (same_path path p) (f row) (filter (at path) (map f rows))) (paths row) ∙ by (at path row) (at_map f paths rows)
    where
      by : (c : Bool) → row_at path (map f rows) ≡ option_map f (row_at path rows) → first_if c (f row) (filter (at path) (map f rows)) ≡ option_map f (first_if c row (filter (at path) rows))
      by true rest = refl
      by false rest = rest

  -- rows of the path that stay themselves
  pub at_map_same : (f : Row → Row) → ((row : Row) → (f row).path ≡ row.path) → ((row : Row) → at path row ≡ true → f row ≡ row) → (rows : List Row) → row_at path (map f rows) ≡ row_at path rows
  at_map_same f paths h rows = at_map f paths rows ∙ by (row_at path rows) refl
    where
      by : (o : Option Row) → row_at path rows ≡ o → option_map f o ≡ o
      by None e = refl
      by (Some row) e = ap (λ r. Some r) (h row (first_found (at path) rows row e))

  -- ---- rows in a place

  right_none : (o : Option Row) → option_or o None ≡ o
  right_none None = refl
  right_none (Some row) = refl

  module _ (top : List (List ℕ)) (block rows : List Row) where
    three : row_at path (rows_replaced top block rows) ≡ option_or (row_at path (filter (is_before top) rows)) (option_or (row_at path block) (row_at path (filter (is_beyond top) rows)))
    three =
        at_append (filter (is_before top) rows) (block ++ filter (is_beyond top) rows)
        ∙ ap (λ o. option_or (row_at path (filter (is_before top) rows)) o) (at_append block (filter (is_beyond top) rows))

    abbrev joined : Option Row → Option Row → Option Row → Option Row
    joined a b c = option_or a (option_or b c)

    of_path : (row : Row) → at path row ≡ true → row.path ≡ path
    of_path row e = sym (same_path_is path row.path e)

    -- beside the place
    pub at_replaced : is_prefix top path ≡ false → list_all (λ row. is_prefix top row.path) block ≡ true → row_at path (rows_replaced top block rows) ≡ row_at path rows
    at_replaced apart inside =
        let mid : row_at path block ≡ None = at_absent (λ row. is_prefix top row.path) block inside (λ row e. ap (is_prefix top) (of_path row e) ∙ apart) in
        by (path_cmp top path) refl mid
      where
        by : (o : Ordering) → path_cmp top path ≡ o → row_at path block ≡ None → row_at path (rows_replaced top block rows) ≡ row_at path rows
        by Less e mid =
            let low : row_at path (filter (is_before top) rows) ≡ None = at_dropped (is_before top) rows (λ row k. ap (λ p. is_gt (path_cmp top p)) (of_path row k) ∙ ap is_gt e) in
            let high : row_at path (filter (is_beyond top) rows) ≡ row_at path rows =
            at_kept (is_beyond top) rows (λ row k. ap (λ p. is_lt (path_cmp top p) && not (is_prefix top p)) (of_path row k) ∙ ap (λ b. is_lt (path_cmp top path) && not b) apart ∙ ap (λ o. is_lt o && true) e) in
            three
            ∙ ap (λ o. joined o (row_at path block) (row_at path (filter (is_beyond top) rows))) low
            ∙ ap (λ o. joined None o (row_at path (filter (is_beyond top) rows))) mid
            ∙ high
        by Equal e mid = absurd (differ (sym (tied_starts top path e) ∙ apart))
        by Greater e mid =
            let low : row_at path (filter (is_before top) rows) ≡ row_at path rows = at_kept (is_before top) rows (λ row k. ap (λ p. is_gt (path_cmp top p)) (of_path row k) ∙ ap is_gt e) in
            let high : row_at path (filter (is_beyond top) rows) ≡ None =
            at_dropped (is_beyond top) rows (λ row k. ap (λ p. is_lt (path_cmp top p) && not (is_prefix top p)) (of_path row k) ∙ ap (λ o. is_lt o && not (is_prefix top path)) e) in
            three
            ∙ ap (λ o. joined o (row_at path block) (row_at path (filter (is_beyond top) rows))) low
            ∙ ap (λ o. joined (row_at path rows) o (row_at path (filter (is_beyond top) rows))) mid
            ∙ ap (λ o. joined (row_at path rows) None o) high
            ∙ right_none (row_at path rows)

    -- in the place
    pub at_new : is_prefix top path ≡ true → row_at path (rows_replaced top block rows) ≡ row_at path block
    at_new within =
        let low : row_at path (filter (is_before top) rows) ≡ None = at_dropped (is_before top) rows (λ row k. ap (λ p. is_gt (path_cmp top p)) (of_path row k) ∙ starts_upto top path within) in
        let high : row_at path (filter (is_beyond top) rows) ≡ None =
        at_dropped (is_beyond top) rows (λ row k. ap (λ p. is_lt (path_cmp top p) && not (is_prefix top p)) (of_path row k) ∙ ap (λ b. is_lt (path_cmp top path) && not b) within ∙ and_false (is_lt (path_cmp top path))) in
        three
        ∙ ap (λ o. joined o (row_at path block) (row_at path (filter (is_beyond top) rows))) low
        ∙ ap (λ o. joined None (row_at path block) o) high
        ∙ right_none (row_at path block)

-- rows that were moved

pub at_moved : (from to names : List (List ℕ)) (rows : List Row) → row_at (to ++ names) (map (moved_row from to) (rows_under from rows)) ≡ option_map (moved_row from to) (row_at (from ++ names) rows)
at_moved from to names [] = refl
at_moved from to names (row ∷ rows) = by_place (is_prefix from row.path) refl (at_moved from to names rows)
  where
    same_test : is_prefix from row.path ≡ true → same_path (to ++ names) (to ++ drop (length from) row.path) ≡ same_path (from ++ names) row.path
    same_test inside =
        ap is_eq (front_cmp to names (drop (length from) row.path) ∙ sym (front_cmp from names (drop (length from) row.path))) ∙ ap (same_path (from ++ names)) (sym (front_and_rest from row.path inside))

    by_test : (c : Bool) → row_at (to ++ names) (map (moved_row from to) (rows_under from rows)) ≡ option_map (moved_row from to) (row_at (from ++ names) rows)
        → first_if c (moved_row from to row) (filter (at (to ++ names)) (map (moved_row from to) (rows_under from rows))) ≡ option_map (moved_row from to) (first_if c row (filter (at (from ++ names)) rows))
    by_test true rest = refl
    by_test false rest = rest

    by_place : (b : Bool) → is_prefix from row.path ≡ b → row_at (to ++ names) (map (moved_row from to) (rows_under from rows)) ≡ option_map (moved_row from to) (row_at (from ++ names) rows)
        → row_at (to ++ names) (map (moved_row from to) (cond b (row ∷ rows_under from rows) (rows_under from rows))) ≡ option_map (moved_row from to) (row_at (from ++ names) (row ∷ rows))
    by_place true e rest =
        ap (λ c. first_if c (moved_row from to row) (filter (at (to ++ names)) (map (moved_row from to) (rows_under from rows)))) (same_test e) ∙ by_test (at (from ++ names) row) rest
    by_place false e rest = rest ∙ ap (option_map (moved_row from to)) (sym (elsewhere (at (from ++ names) row) refl))
      where
        elsewhere : (c : Bool) → at (from ++ names) row ≡ c → first_if c row (filter (at (from ++ names)) rows) ≡ row_at (from ++ names) rows
        elsewhere true k = absurd (differ (sym (ap (is_prefix from) (sym (same_path_is (from ++ names) row.path k)) ∙ front_inside from names) ∙ e))
        elsewhere false k = refl

-- ---- one row at a path

none_behind : (path : List (List ℕ)) (t : Row → Bool) (row : Row) (rows : List Row) → at path row ≡ true → is_before_all row rows ≡ true → list_any (λ r. at path r && t r) rows ≡ false
none_behind path t row [] e low = refl
none_behind path t row (other ∷ rows) e low =
    let lows = both (is_lt (path_cmp row.path other.path)) (is_before_all row rows) low in
    let apart : at path other ≡ false = ap (λ p. same_path p other.path) (same_path_is path row.path e) ∙ ap is_eq (less_is _ lows.0) in
    ap (λ b. (b && t other) || list_any (λ r. at path r && t r) rows) apart ∙ none_behind path t row rows e lows.1

pub only_row : (path : List (List ℕ)) (t : Row → Bool) (rows : List Row) (row : Row) → is_ascending rows ≡ true → row_at path rows ≡ Some row → list_any (λ r. at path r && t r) rows ≡ true → t row ≡ true
only_row path t [] row up e some = cc
only_row path t (other ∷ rows) row up e some =
    let ups = both (is_before_all other rows) (is_ascending rows) up in
    by (at path other) refl e some (λ k. none_behind path t other rows k ups.0) (only_row path t rows row ups.1)
  where
    one : (x y : Row) → Some x ≡ Some y → x ≡ y
    one x y k = cc

    left : (a b : Bool) → b ≡ false → (a || b) ≡ true → a ≡ true
    left true b k h = refl
    left false true k h = cc
    left false false k h = h

    by : (b : Bool) → at path other ≡ b → first_if b other (filter (at path) rows) ≡ Some row → ((b && t other) || list_any (λ r. at path r && t r) rows) ≡ true
        → (at path other ≡ true → list_any (λ r. at path r && t r) rows ≡ false)
        → (row_at path rows ≡ Some row → list_any (λ r. at path r && t r) rows ≡ true → t row ≡ true) → t row ≡ true
    by true k is some none rest = ap t (sym (one other row is)) ∙ left (t other) (list_any (λ r. at path r && t r) rows) (none k) some
    by false k is some none rest = rest is some

-- ---- a front of a path is the path, or above it

pub front_is : (a p : List (List ℕ)) → is_prefix a p ≡ true → same_path a p ≡ false → is_beneath p a ≡ true
front_is [] [] h apart = cc
front_is [] (n ∷ ns) h apart = refl
front_is (n ∷ ns) [] h apart = cc
front_is (n ∷ ns) (m ∷ ms) h apart =
    let parts = both (same n m) (is_prefix ns ms) h in
    let is : n ≡ m = same_is n m parts.0 in
    let tied : text_cmp n m ≡ Equal = ap (λ t. text_cmp t m) is ∙ front_itself m in
    and _ _ (ap (same m) is ∙ ap is_eq (front_itself m)) (front_is ns ms parts.1 (sym (ap (λ o. is_eq (ordering_then o (path_cmp ns ms))) tied) ∙ apart))

pub same_back : (p q : List (List ℕ)) → same_path p q ≡ false → same_path q p ≡ false
same_back p q h = by (same_path q p) refl
  where
    by : (b : Bool) → same_path q p ≡ b → b ≡ false
    by true e = absurd (differ (sym (ap (same_path p) (same_path_is q p e) ∙ same_self p) ∙ h))
    by false e = refl
