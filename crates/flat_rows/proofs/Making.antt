-- How many files a client has open once something is made at a path.
use Rattle.std.proofs.Common.{◌≡◌, ℕ, ◌+◌, Bool, true, false, ◌&&◌, ◌||◌, List, [], ◌∷◌, ◌++◌, length, drop, take, refl, sym, ap, ◌∙◌, Ordering, Less, is_eq, cond, Option, Some, None, arith}
use Rattle.std.specs.Prelude.{filter, not}
use Rattle.std.specs.List.{list_all, list_any, last_or}
use Rattle.std.specs.Ordering.{is_lt}
use Rattle.std.proofs.lemmas.List.{take-append-drop}
use Rattle.file_paths.specs.Path.{is_prefix, is_beneath}
use Rattle.file_paths.specs.PathOrder.{path_cmp, same_path, paths_total}
use Rattle.hdfs_values.proofs.Texts.{same_self}
use Rattle.namespace_rows.specs.declared.file_row.FileRow.{FileRow}
use Rattle.namespace_rows.specs.declared.row.Row.{Row}
use Rattle.namespace_rows.specs.Rows.{is_missing, ancestor, with_sub_tree}
use Rattle.namespace_rows.specs.Namespace.{IsNamespace, is_ascending, is_before_all, is_root}
use Rattle.flat_rows.specs.Outcome.{new_row, new_rows, mode_of_new, file_of_new, with_new}
use Rattle.namespace_rows.specs.Changes.{without}
use Rattle.namespace_rows.specs.Files.{is_client, holder_of_file, is_open_by}
use Rattle.namespace_rows.proofs.Tests.{both, and, or_left, or_right}
use Rattle.namespace_rows.proofs.PathOrders.{less_is, same_path_is}
use Rattle.namespace_rows.proofs.Namespaces.{namespace_tests, ascending_filter}
use Rattle.flat_rows.proofs.NewDirectories.{longer_less, last_all, ancestor_above, beneath_parts}
use Rattle.flat_rows.proofs.Changes.{any_kept}
use Rattle.flat_rows.proofs.Changes as changes
use Rattle.flat_rows.proofs.Missing.{found, missing_any}
use Rattle.flat_rows.proofs.Holders.{bit, tally, tally_cons, tally_replaced, tally_apart, all_apart}

differ : true ≡ false → ⊥
differ e = cc

-- ---- the last of ascending rows

abbrev pub upto : Row → Row → Bool
upto above row = is_lt (path_cmp row.path above.path) || same_path row.path above.path

first_upto : (above x : Row) (xs : List Row) → is_before_all x xs ≡ true → last_or (Some x) xs ≡ Some above → upto above x ≡ true
first_upto above x [] low e = or_right (is_lt (path_cmp x.path above.path)) _ (ap (λ r. same_path x.path r.path) (sym (one x above e)) ∙ changes.same_self x.path)
  where
    one : (a b : Row) → Some a ≡ Some b → a ≡ b
    one a b h = cc
first_upto above x (y ∷ ys) low e =
    or_left _ _ (last_all (λ r. is_lt (path_cmp x.path r.path)) above (y ∷ ys) None (λ r h. cc) low e)

pub all_upto : (above : Row) (xs : List Row) → is_ascending xs ≡ true → last_or None xs ≡ Some above → list_all (upto above) xs ≡ true
all_upto above [] up e = refl
all_upto above (x ∷ []) up e = and _ _ (first_upto above x [] refl e) refl
all_upto above (x ∷ y ∷ ys) up e =
    let ups = both (is_before_all x (y ∷ ys)) (is_ascending (y ∷ ys)) up in
    and _ _ (first_upto above x (y ∷ ys) ups.0 e) (all_upto above (y ∷ ys) ups.1 e)

pub not_upto : (above : Row) (name : List ℕ) (row : Row) → row.path ≡ above.path ++ name ∷ [] → upto above row ≡ false
not_upto above name row e = by (is_lt (path_cmp row.path above.path)) (same_path row.path above.path) refl refl
  where
    longer : path_cmp above.path row.path ≡ Less
    longer = ap (path_cmp above.path) e ∙ longer_less above.path name

    unlike : path_cmp above.path above.path ≡ Less → ⊥
    unlike h = differ (sym (changes.same_self above.path) ∙ ap is_eq h)

    by : (b c : Bool) → is_lt (path_cmp row.path above.path) ≡ b → same_path row.path above.path ≡ c → (b || c) ≡ false
    by true c h k = absurd (unlike (paths_total.trans above.path row.path above.path longer (less_is _ h)))
    by false true h k = absurd (unlike (ap (path_cmp above.path) (sym (same_path_is row.path above.path k)) ∙ longer))
    by false false h k = refl

-- ---- the first component that is missing

pub beneath_more : (p : List (List ℕ)) (n : List ℕ) (ns : List (List ℕ)) (next : List ℕ) → is_beneath (p ++ n ∷ next ∷ ns) (p ++ n ∷ []) ≡ true
beneath_more [] n ns next = and _ _ (same_self n) refl
beneath_more (m ∷ ms) n ns next = and _ _ (same_self m) (beneath_more ms n ns next)

module _ (path : List (List ℕ)) (rows : List Row) (above : Row) (name : List ℕ) where
  abbrev top : List (List ℕ)
  top = above.path ++ name ∷ []

  abbrev at : Row → Bool
  at row = same_path top row.path

  on_path : (names : List (List ℕ)) → IsNamespace rows → is_missing path rows ≡ true → ancestor path rows ≡ Some above → path ≡ above.path ++ name ∷ names → list_any at rows ≡ true → ⊥
  on_path [] h missing found_above whole there = differ (sym missing ∙ missing_any path rows ∙ ap (λ p. not (list_any (λ r. same_path p r.path) rows)) whole ∙ ap not there)
  on_path (next ∷ more) h missing found_above whole there =
      let test : Row → Bool = λ row. is_beneath path row.path in
      let beneath : is_beneath path top ≡ true = ap (λ p. is_beneath p top) whole ∙ beneath_more above.path name more next in
      let inside : list_any at (filter test rows) ≡ true =
      any_kept test at (λ row k. ap (is_beneath path) (sym (same_path_is top row.path k)) ∙ beneath) rows there in
      let one = found at (filter test rows) inside in
      let low = one.shared (upto above) (all_upto above (filter test rows) (ascending_filter test rows (namespace_tests rows h).ascending) found_above) in
      differ (sym low ∙ not_upto above name one.row (sym (same_path_is top one.row.path one.passes)))

  pub first_missing : (names : List (List ℕ)) → IsNamespace rows → is_missing path rows ≡ true → ancestor path rows ≡ Some above → path ≡ above.path ++ name ∷ names → is_missing top rows ≡ true
  first_missing names h missing found_above whole = by (list_any at rows) refl
    where
      by : (b : Bool) → list_any at rows ≡ b → is_missing top rows ≡ true
      by true e = absurd (on_path names h missing found_above whole e)
      by false e = missing_any top rows ∙ ap not e

-- ---- what is made

module _ (client owner : List ℕ) (mode : ℕ) (file : Option FileRow) where
  abbrev mine : Row → Bool
  mine = is_open_by client

  tally_new : (above : Row) (name : List ℕ) (names : List (List ℕ)) → tally mine (new_rows above owner mode file (name ∷ names)) ≡ bit (is_client client (holder_of_file file))
  tally_new above name [] = tally_cons mine (new_row above owner mode file name) [] ∙ none (bit (is_client client (holder_of_file file)))
    where
      none : (n : ℕ) → n + 0 ≡ n
      none n = omega arith
  tally_new above name (next ∷ names) =
      let made = new_row above owner (mode_of_new mode (next ∷ names)) (file_of_new file (next ∷ names)) name in
      tally_cons mine made (new_rows made owner mode file (next ∷ names)) ∙ none (tally mine (new_rows made owner mode file (next ∷ names))) ∙ tally_new made next names
    where
      none : (n : ℕ) → 0 + n ≡ n
      none n = omega arith

  -- where nothing had the path
  pub tally_made : (path : List (List ℕ)) (rows : List Row) (above : Row) → IsNamespace rows → is_missing path rows ≡ true → ancestor path rows ≡ Some above
      → tally mine (with_new path mode file owner (ancestor path rows) rows) ≡ bit (is_client client (holder_of_file file)) + tally mine rows
  tally_made path rows above h missing found_above =
      let parts = beneath_parts path above.path (ancestor_above path rows above found_above) in
      let whole : path ≡ above.path ++ parts.name ∷ parts.names =
      sym (take-append-drop (length above.path) path) ∙ ap (λ t. t ++ drop (length above.path) path) parts.front ∙ ap (λ t. above.path ++ t) parts.left in
      let top : List (List ℕ) = above.path ++ parts.name ∷ [] in
      let block : List Row = new_rows above owner mode file (parts.name ∷ parts.names) in
      let apart = all_apart top rows h (first_missing path rows above parts.name parts.names h missing found_above whole) in
      ap (λ a. tally mine (with_new path mode file owner a rows)) found_above
      ∙ ap (λ t. tally mine (with_sub_tree rows (new_rows above owner mode file t))) parts.left
      ∙ tally_replaced mine top block rows
      ∙ ap (λ n. n + tally mine (without top rows)) (tally_new above parts.name parts.names)
      ∙ ap (λ n. bit (is_client client (holder_of_file file)) + n) (tally_apart mine top rows apart)

  -- where something had the path, in a directory
  pub tally_over : (path : List (List ℕ)) (rows : List Row) (above : Row) (name : List ℕ) → ancestor path rows ≡ Some above → path ≡ above.path ++ name ∷ []
      → tally mine (with_new path mode file owner (ancestor path rows) rows) ≡ bit (is_client client (holder_of_file file)) + tally mine (without path rows)
  tally_over path rows above name found_above whole =
      let left : drop (length above.path) path ≡ name ∷ [] = ap (drop (length above.path)) whole ∙ dropped above.path in
      ap (λ a. tally mine (with_new path mode file owner a rows)) found_above
      ∙ ap (λ t. tally mine (with_sub_tree rows (new_rows above owner mode file t))) left
      ∙ tally_replaced mine (above.path ++ name ∷ []) (new_rows above owner mode file (name ∷ [])) rows
      ∙ ap (λ n. n + tally mine (without (above.path ++ name ∷ []) rows)) (tally_new above name [])
      ∙ ap (λ p. bit (is_client client (holder_of_file file)) + tally mine (without p rows)) (sym whole)
    where
      dropped : (p : List (List ℕ)) → drop (length p) (p ++ name ∷ []) ≡ name ∷ []
      dropped [] = refl
      dropped (m ∷ ms) = dropped ms

-- above a path that isn't the root there is something
pub some_ancestor : (path : List (List ℕ)) (rows : List Row) → IsNamespace rows → is_root path ≡ false → (above : Row) × (ancestor path rows ≡ Some above)
some_ancestor path [] h below = cc
some_ancestor [] (root ∷ rows) h below = cc
some_ancestor (n ∷ ns) (root ∷ rows) h below = by root.path refl (both (is_root root.path) _ (namespace_tests (root ∷ rows) h).rooted).0
  where
    last_some : (x : Row) (xs : List Row) → (above : Row) × (last_or (Some x) xs ≡ Some above)
    last_some x [] = (x, refl)
    last_some x (y ∷ ys) = last_some y ys

    by : (p : List (List ℕ)) → root.path ≡ p → is_root p ≡ true → (above : Row) × (ancestor (n ∷ ns) (root ∷ rows) ≡ Some above)
    by [] e k =
        let rest = last_some root (filter (λ row. is_beneath (n ∷ ns) row.path) rows) in
        (rest.0, ap (λ p. last_or None (cond (is_beneath (n ∷ ns) p) (root ∷ filter (λ row. is_beneath (n ∷ ns) row.path) rows) (filter (λ row. is_beneath (n ∷ ns) row.path) rows))) e ∙ rest.1)
    by (m ∷ ms) e k = cc
