-- How many files a client has open, through each change of the rows.
use Rattle.std.proofs.Common.{◌≡◌, ℕ, suc, ◌+◌, Bool, true, false, ◌&&◌, ◌||◌, List, [], ◌∷◌, ◌++◌, map, length, drop, take, refl, sym, ap, ◌∙◌, Ordering, Less, Equal, Greater, is_eq, nat_lt, cond, Option, Some, None, arith}
use Rattle.std.specs.Prelude.{filter, not}
use Rattle.std.specs.Option.{option_map, option_to_list}
use Rattle.std.specs.List.{list_all, list_any}
use Rattle.std.specs.Ordering.{is_gt, is_lt}
use Rattle.std.proofs.lemmas.Bool.{lt-ltb}
use Rattle.hdfs_values.specs.Text.{same}
use Rattle.file_paths.specs.Path.{is_prefix}
use Rattle.file_paths.specs.PathOrder.{path_cmp, same_path}
use Rattle.file_states.specs.declared.state.FileState.{FileState}
use Rattle.file_states.specs.declared.state.FileState.TheVariants.{Closed}
use Rattle.namespace_rows.specs.declared.file_row.FileRow.{FileRow}
use Rattle.namespace_rows.specs.declared.row.Row.{Row}
use Rattle.namespace_rows.specs.declared.row.Change.{Change}
use Rattle.namespace_rows.specs.declared.row.Change.TheVariants as change
use Rattle.namespace_rows.specs.First.{first}
use Rattle.namespace_rows.specs.Rows.{row_at, is_missing, is_before, is_beyond, rows_replaced}
use Rattle.namespace_rows.specs.Namespace.{IsNamespace, is_ascending, is_before_all}
use Rattle.namespace_rows.specs.Changes.{rows_under, without, moved_row, with_rows_moved, with_change, row_rewritten}
use Rattle.namespace_rows.specs.Files.{with_state, is_client, holder_of_file, holders, is_open_by}
use Rattle.namespace_rows.proofs.Tests.{both, all_kept}
use Rattle.namespace_rows.proofs.PathOrders.{less_is, starts_upto, tied_starts, same_path_is}
use Rattle.flat_rows.proofs.Changes.{same_self}
use Rattle.flat_rows.proofs.Missing.{missing_above, found, missing_any}

differ : true ≡ false → ⊥
differ e = cc

abbrev pub bit : Bool → ℕ
bit true = 1
bit false = 0

-- ---- tests that rows pass, counted

abbrev pub tally : (Row → Bool) → List Row → ℕ
tally p rows = length (filter p rows)

module _ (p : Row → Bool) where
  pub tally_cons : (row : Row) (rows : List Row) → tally p (row ∷ rows) ≡ bit (p row) + tally p rows
  tally_cons row rows = by (p row)
    where
      by : (b : Bool) → length (cond b (row ∷ filter p rows) (filter p rows)) ≡ bit b + tally p rows
      by true = omega arith
      by false = omega arith

  pub tally_append : (xs ys : List Row) → tally p (xs ++ ys) ≡ tally p xs + tally p ys
  tally_append [] ys = omega arith
  tally_append (x ∷ xs) ys = omega (arith, tally_cons x (xs ++ ys), tally_cons x xs, tally_append xs ys)

  pub tally_map : (f : Row → Row) → ((row : Row) → p (f row) ≡ p row) → (rows : List Row) → tally p (map f rows) ≡ tally p rows
  tally_map f h [] = refl
  tally_map f h (row ∷ rows) = tally_cons (f row) (map f rows) ∙ ap (λ b. bit b + tally p (map f rows)) (h row) ∙ ap (λ n. bit (p row) + n) (tally_map f h rows) ∙ sym (tally_cons row rows)

  -- rows at and beneath a path, and the others
  pub tally_split : (path : List (List ℕ)) (rows : List Row) → tally p rows ≡ tally p (rows_under path rows) + tally p (without path rows)
  tally_split path [] = refl
  tally_split path (row ∷ rows) = by (is_prefix path row.path) (tally_split path rows)
    where
      by : (b : Bool) → tally p rows ≡ tally p (rows_under path rows) + tally p (without path rows) → tally p (row ∷ rows) ≡ tally p (cond b (row ∷ rows_under path rows) (rows_under path rows)) + tally p (cond (not b) (row ∷ without path rows) (without path rows))
      by true rest = omega (arith, tally_cons row rows, tally_cons row (rows_under path rows), rest)
      by false rest = omega (arith, tally_cons row rows, tally_cons row (without path rows), rest)

  tally_parted : (path : List (List ℕ)) (rows : List Row) → tally p (filter (is_before path) rows) + tally p (filter (is_beyond path) rows) ≡ tally p (without path rows)
  tally_parted path [] = omega arith
  tally_parted path (row ∷ rows) = by (path_cmp path row.path) (is_prefix path row.path) refl refl (filter (is_before path) rows) (filter (is_beyond path) rows) (without path rows) (tally_parted path rows)
    where
      by : (o : Ordering) (s : Bool) → path_cmp path row.path ≡ o → is_prefix path row.path ≡ s → (lows highs others : List Row) → tally p lows + tally p highs ≡ tally p others
          → tally p (cond (is_gt o) (row ∷ lows) lows) + tally p (cond (is_lt o && not s) (row ∷ highs) highs) ≡ tally p (cond (not s) (row ∷ others) others)
      by Less true e h lows highs others rest = rest
      by Less false e h lows highs others rest = omega (arith, tally_cons row highs, tally_cons row others, rest)
      by Equal true e h lows highs others rest = rest
      by Equal false e h lows highs others rest = absurd (differ (sym (tied_starts path row.path e) ∙ h))
      by Greater true e h lows highs others rest = absurd (differ (ap is_gt (sym e) ∙ starts_upto path row.path h))
      by Greater false e h lows highs others rest = omega (arith, tally_cons row lows, tally_cons row others, rest)

  -- new rows in the place of those at and beneath a path
  pub tally_replaced : (path : List (List ℕ)) (block rows : List Row) → tally p (rows_replaced path block rows) ≡ tally p block + tally p (without path rows)
  tally_replaced path block rows =
      let lows : List Row = filter (is_before path) rows in
      let highs : List Row = filter (is_beyond path) rows in
      omega (arith, tally_append lows (block ++ highs), tally_append block highs, tally_parted path rows)

  -- where nothing stands at or beneath the path
  pub tally_apart : (path : List (List ℕ)) (rows : List Row) → list_all (λ row. not (is_prefix path row.path)) rows ≡ true → tally p (without path rows) ≡ tally p rows
  tally_apart path [] h = refl
  tally_apart path (row ∷ rows) h = by (is_prefix path row.path) h (tally_apart path rows)
    where
      by : (b : Bool) → (not b && list_all (λ r. not (is_prefix path r.path)) rows) ≡ true → (list_all (λ r. not (is_prefix path r.path)) rows ≡ true → tally p (without path rows) ≡ tally p rows) → tally p (cond (not b) (row ∷ without path rows) (without path rows)) ≡ tally p (row ∷ rows)
      by true k rest = cc
      by false k rest = omega (arith, tally_cons row (without path rows), tally_cons row rows, rest k)

-- nothing is beneath a path that is missing

all_or_any : (q : Row → Bool) (rows : List Row) → list_all (λ row. not (q row)) rows ≡ not (list_any q rows)
all_or_any q [] = refl
all_or_any q (row ∷ rows) = by (q row) (all_or_any q rows)
  where
    by : (b : Bool) → list_all (λ r. not (q r)) rows ≡ not (list_any q rows) → (not b && list_all (λ r. not (q r)) rows) ≡ not (b || list_any q rows)
    by true rest = refl
    by false rest = rest

pub all_apart : (path : List (List ℕ)) (rows : List Row) → IsNamespace rows → is_missing path rows ≡ true → list_all (λ row. not (is_prefix path row.path)) rows ≡ true
all_apart path rows h missing = by (list_any (λ row. is_prefix path row.path) rows) refl
  where
    by : (b : Bool) → list_any (λ row. is_prefix path row.path) rows ≡ b → list_all (λ row. not (is_prefix path row.path)) rows ≡ true
    by false e = all_or_any (λ row. is_prefix path row.path) rows ∙ ap not e
    by true e =
        let one = found (λ row. is_prefix path row.path) rows e in
        let there : is_missing one.row.path rows ≡ false = missing_any one.row.path rows ∙ ap not (one.among (λ row. same_path one.row.path row.path) (same_self one.row.path)) in
        absurd (differ (sym one.passes ∙ missing_above rows one.row.path path h there missing))

-- ---- rows that leave each client's files open as they were

module _ (client : List ℕ) where
  abbrev mine : Row → Bool
  mine = is_open_by client

  pub kept_file : (f : FileRow → FileRow) → ((file : FileRow) → holder_of_file (Some (f file)) ≡ holder_of_file (Some file)) → (file : Option FileRow) → holder_of_file (option_map f file) ≡ holder_of_file file
  kept_file f h None = refl
  kept_file f h (Some file) = h file

  -- a row is changed otherwise than in its state
  pub tally_rewritten : (path : List (List ℕ)) (what : Change) → ((row : Row) → holder_of_file (with_change what row).file ≡ holder_of_file row.file) → (rows : List Row) → tally mine (row_rewritten path what rows) ≡ tally mine rows
  tally_rewritten path what h rows = tally_map mine (λ row. cond (same_path path row.path) (with_change what row) row) (λ row. by row (same_path path row.path)) rows
    where
      by : (row : Row) (b : Bool) → mine (cond b (with_change what row) row) ≡ mine row
      by row true = ap (is_client client) (h row)
      by row false = refl

  -- what stands at a path is moved to one that is missing
  pub tally_moved : (from to : List (List ℕ)) (rows : List Row) → IsNamespace rows → is_missing to rows ≡ true → tally mine (with_rows_moved from to rows) ≡ tally mine rows
  tally_moved from to rows h missing =
      let block : List Row = rows_under from rows in
      let others : List Row = without from rows in
      let apart = all_kept (λ row. not (is_prefix from row.path)) (λ row. not (is_prefix to row.path)) rows (all_apart to rows h missing) in
      omega (arith, tally_replaced mine to (map (moved_row from to) block) others, tally_map mine (moved_row from to) (λ row. refl) block, tally_apart mine to others apart, tally_split mine from rows)

  -- the holders of rows, counted
  pub tally_holders : (rows : List Row) → length (filter (same client) (holders rows)) ≡ tally mine rows
  tally_holders [] = refl
  tally_holders (row ∷ rows) = by (holder_of_file row.file) refl (tally_holders rows)
    where
      by : (h : Option (List ℕ)) → holder_of_file row.file ≡ h → length (filter (same client) (holders rows)) ≡ tally mine rows → length (filter (same client) (option_to_list h ++ holders rows)) ≡ tally mine (row ∷ rows)
      by None e rest = rest ∙ sym (tally_cons mine row rows ∙ ap (λ h. bit (is_client client h) + tally mine rows) e ∙ zeroed (tally mine rows))
        where
          zeroed : (n : ℕ) → 0 + n ≡ n
          zeroed n = omega arith
      by (Some h) e rest = by_same (same client h) refl
        where
          by_same : (b : Bool) → same client h ≡ b → length (cond b (h ∷ filter (same client) (holders rows)) (filter (same client) (holders rows))) ≡ tally mine (row ∷ rows)
          by_same true k = omega (arith, rest, tally_cons mine row rows, ap (λ h. bit (is_client client h)) e, ap bit k)
          by_same false k = omega (arith, rest, tally_cons mine row rows, ap (λ h. bit (is_client client h)) e, ap bit k)

  -- some file is open where not none is
  pub tally_any : (rows : List Row) → list_any mine rows ≡ nat_lt 0 (tally mine rows)
  tally_any [] = refl
  tally_any (row ∷ rows) = by (mine row) (tally_any rows)
    where
      by : (b : Bool) → list_any mine rows ≡ nat_lt 0 (tally mine rows) → (b || list_any mine rows) ≡ nat_lt 0 (length (cond b (row ∷ filter mine rows) (filter mine rows)))
      by true rest = sym (lt-ltb 0 (suc (tally mine rows)) (omega arith))
      by false rest = rest

  -- the file at a path gets another state

  abbrev after : FileState → Row → Row
  after state row = with_change (change.State state) row

  behind : (path : List (List ℕ)) (what : Change) (row : Row) (rows : List Row) → same_path path row.path ≡ true → is_before_all row rows ≡ true → tally mine (row_rewritten path what rows) ≡ tally mine rows
  behind path what row [] at low = refl
  behind path what row (other ∷ rows) at low =
      let lows = both (is_lt (path_cmp row.path other.path)) (is_before_all row rows) low in
      let apart : same_path path other.path ≡ false = ap (λ p. same_path p other.path) (same_path_is path row.path at) ∙ ap is_eq (less_is _ lows.0) in
      let stays : mine (cond (same_path path other.path) (with_change what other) other) ≡ mine other = ap (λ b. mine (cond b (with_change what other) other)) apart in
      omega (arith, tally_cons mine (cond (same_path path other.path) (with_change what other) other) (row_rewritten path what rows), tally_cons mine other rows, ap bit stays, behind path what row rows at lows.1)

  pub tally_state : (path : List (List ℕ)) (state : FileState) (row : Row) (rows : List Row) → is_ascending rows ≡ true → row_at path rows ≡ Some row
      → tally mine (row_rewritten path (change.State state) rows) + bit (mine row) ≡ tally mine rows + bit (mine (after state row))
  tally_state path state row [] up e = cc
  tally_state path state row (x ∷ xs) up e =
      let ups = both (is_before_all x xs) (is_ascending xs) up in
      by (same_path path x.path) refl e (λ at. behind path (change.State state) x xs at ups.0) (tally_state path state row xs ups.1)
    where
      one : (a b : Row) → Some a ≡ Some b → a ≡ b
      one a b h = cc

      by : (b : Bool) → same_path path x.path ≡ b → first (cond b (x ∷ filter (λ r. same_path path r.path) xs) (filter (λ r. same_path path r.path) xs)) ≡ Some row
          → (same_path path x.path ≡ true → tally mine (row_rewritten path (change.State state) xs) ≡ tally mine xs)
          → (row_at path xs ≡ Some row → tally mine (row_rewritten path (change.State state) xs) + bit (mine row) ≡ tally mine xs + bit (mine (after state row)))
          → tally mine (cond b (after state x) x ∷ row_rewritten path (change.State state) xs) + bit (mine row) ≡ tally mine (x ∷ xs) + bit (mine (after state row))
      by true k at here rest =
          let same_row = one x row at in
          omega (arith, tally_cons mine (after state x) (row_rewritten path (change.State state) xs), tally_cons mine x xs, here k, ap (λ r. bit (mine r)) same_row, ap (λ r. bit (mine (after state r))) same_row)
      by false k at here rest = omega (arith, tally_cons mine x (row_rewritten path (change.State state) xs), tally_cons mine x xs, rest at)

  -- files of leases past the hard limit are closed

  closed_free : (file : Option FileRow) → is_client client (holder_of_file (option_map (with_state Closed) file)) ≡ false
  closed_free None = refl
  closed_free (Some file) = refl

  pub tally_closed : (test : Row → Bool) (rows : List Row) → tally mine (map (λ row. cond (test row) (after Closed row) row) rows) + tally mine (filter test rows) ≡ tally mine rows
  tally_closed test [] = omega arith
  tally_closed test (row ∷ rows) = by (test row) (tally_closed test rows)
    where
      closed : List Row
      closed = map (λ r. cond (test r) (after Closed r) r) rows

      by : (b : Bool) → tally mine closed + tally mine (filter test rows) ≡ tally mine rows
          → tally mine (cond b (after Closed row) row ∷ closed) + tally mine (cond b (row ∷ filter test rows) (filter test rows)) ≡ tally mine (row ∷ rows)
      by true rest = omega (arith, tally_cons mine (after Closed row) closed, tally_cons mine row (filter test rows), tally_cons mine row rows, ap bit (closed_free row.file), rest)
      by false rest = omega (arith, tally_cons mine row closed, tally_cons mine row rows, rest)
