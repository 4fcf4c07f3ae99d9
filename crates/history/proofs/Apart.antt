-- Where nothing has a path, nothing is beneath it; and what is made at a path stands where nothing else does.
use Rattle.std.proofs.Common.{◌≡◌, ℕ, Bool, true, false, ◌||◌, List, [], ◌∷◌, ◌++◌, filter, append_assoc, not, Some, None, refl, sym, ap, ◌∙◌, subst, cond}
use Rattle.std.specs.List.{list_all, list_any, last_or}
use Rattle.std.specs.Ordering.{is_lt, ordering_reverse}
use Rattle.std.specs.Cmp.{tied_itself}
use Rattle.hdfs_values.proofs.Texts.{same_self as name_self}
use Rattle.file_paths.specs.Path.{is_prefix, is_beneath}
use Rattle.file_paths.specs.PathOrder.{path_cmp, same_path, paths_total}
use Rattle.refusals.specs.declared.refusal.Refusal.TheVariants.{IsDirectory}
use Rattle.namespace_rows.specs.declared.row.Row.{Row}
use Rattle.namespace_rows.specs.First.{first}
use Rattle.namespace_rows.specs.Rows.{is_missing, is_none, is_directory, row_at, ancestor}
use Rattle.namespace_rows.specs.Namespace.{IsNamespace, is_ascending, is_before_all, is_root}
use Rattle.namespace_rows.specs.Changes.{rows_under}
use Rattle.flat_rows.specs.FileOutcome.{directory_there}
use Rattle.namespace_rows.proofs.Tests.{both, and, or_left, or_right, all_imp}
use Rattle.namespace_rows.proofs.PathOrders.{same_path_is, less_is}
use Rattle.namespace_rows.proofs.Namespaces.{namespace_tests, ascending_filter}
use Rattle.flat_rows.proofs.Changes.{same_self}
use Rattle.flat_rows.proofs.Missing.{missing_above}
use Rattle.flat_rows.proofs.NewDirectories.{longer_less, starts_onward}
use Rattle.flat_rows.proofs.Moves.{front_inside}

differ : true ≡ false → ⊥
differ e = cc

abbrev at : List (List ℕ) → Row → Bool
at path row = same_path path row.path

-- a path is missing where no row has it
pub missing_is : (path : List (List ℕ)) (rows : List Row) → is_missing path rows ≡ not (list_any (at path) rows)
missing_is path [] = refl
missing_is path (row ∷ rows) = by (at path row) (missing_is path rows)
  where
    by : (b : Bool) → is_missing path rows ≡ not (list_any (at path) rows) → is_none (first (cond b (row ∷ filter (at path) rows) (filter (at path) rows))) ≡ not (b || list_any (at path) rows)
    by true e = refl
    by false e = e

-- what holds of each row that is among them
each : (all : List Row) (p : Row → Bool) → ((row : Row) → list_any (at row.path) all ≡ true → p row ≡ true) → (rows : List Row)
    → ((path : List (List ℕ)) → list_any (at path) rows ≡ true → list_any (at path) all ≡ true) → list_all p rows ≡ true
each all p f [] inside = refl
each all p f (row ∷ rows) inside =
    and _ _ (f row (inside row.path (or_left _ _ (same_self row.path)))) (each all p f rows (λ path h. inside path (or_right (at path row) _ h)))

-- nothing is at or beneath a path that is missing
pub missing_apart : (rows : List Row) (path : List (List ℕ)) → IsNamespace rows → is_missing path rows ≡ true → list_all (λ row. not (is_prefix path row.path)) rows ≡ true
missing_apart rows path namespace missing =
    each rows (λ row. not (is_prefix path row.path))
    (λ row there. ap not (missing_above rows row.path path namespace (missing_is row.path rows ∙ ap not there) missing)) rows (λ path h. h)

pub none_under : (path : List (List ℕ)) (rows : List Row) → list_all (λ row. not (is_prefix path row.path)) rows ≡ true → rows_under path rows ≡ []
none_under path [] h = refl
none_under path (row ∷ rows) h = by (is_prefix path row.path) parts.0 (none_under path rows parts.1)
  where
    parts : (not (is_prefix path row.path) ≡ true) × (list_all (λ row. not (is_prefix path row.path)) rows ≡ true)
    parts = both (not (is_prefix path row.path)) (list_all (λ row. not (is_prefix path row.path)) rows) h

    by : (b : Bool) → not b ≡ true → rows_under path rows ≡ [] → cond b (row ∷ rows_under path rows) (rows_under path rows) ≡ []
    by true e rest = cc
    by false e rest = rest

-- none is beneath a path that is beneath such a path
apart_beneath : (above path : List (List ℕ)) (rows : List Row) → is_prefix above path ≡ true → list_all (λ row. not (is_prefix above row.path)) rows ≡ true → list_all (λ row. not (is_prefix path row.path)) rows ≡ true
apart_beneath above path rows under h =
    all_imp (λ row. not (is_prefix above row.path)) (λ row. not (is_prefix path row.path)) (λ row apart. by (is_prefix above row.path) (is_prefix path row.path) (λ e. starts_onward above path row.path under e) apart) rows h
  where
    by : (b c : Bool) → (c ≡ true → b ≡ true) → not b ≡ true → not c ≡ true
    by true c f e = cc
    by false true f e = absurd (differ (sym (f refl)))
    by false false f e = refl

-- ---- the last component above a path

one_row : (x y : Row) → Some x ≡ Some y → x ≡ y
one_row x y e = cc

abbrev upto : Row → Row → Bool
upto last row = not (is_lt (path_cmp last.path row.path))

upto_itself : (row : Row) → upto row row ≡ true
upto_itself row = ap (λ o. not (is_lt o)) (tied_itself paths_total row.path)

upto_later : (last row : Row) → is_lt (path_cmp row.path last.path) ≡ true → upto last row ≡ true
upto_later last row h = ap (λ o. not (is_lt o)) (paths_total.antisymm last.path row.path ∙ ap ordering_reverse (less_is (path_cmp row.path last.path) h))

last_passes : (q : Row → Bool) (row : Row) (rows : List Row) (last : Row) → list_all q (row ∷ rows) ≡ true → last_or (Some row) rows ≡ Some last → q last ≡ true
last_passes q row [] last h e = subst (λ x. q x ≡ true) (one_row row last e) (both (q row) true h).0
last_passes q row (next ∷ rows) last h e = last_passes q next rows last (both (q row) (list_all q (next ∷ rows)) h).1 e

-- the last of rows that ascend is before none of them
last_behind : (row : Row) (rows : List Row) (last : Row) → is_ascending (row ∷ rows) ≡ true → last_or (Some row) rows ≡ Some last → (upto last row ≡ true) × (list_all (upto last) rows ≡ true)
last_behind row [] last up h = (subst (λ x. upto x row ≡ true) (one_row row last h) (upto_itself row), refl)
last_behind row (next ∷ rows) last up h =
    let ups = both (is_before_all row (next ∷ rows)) (is_ascending (next ∷ rows)) up in
    let rest = last_behind next rows last ups.1 h in
    (upto_later last row (last_passes (λ other. is_lt (path_cmp row.path other.path)) next rows last ups.0 h), and _ _ rest.0 rest.1)

pub all_upto : (rows : List Row) (last : Row) → is_ascending rows ≡ true → last_or None rows ≡ Some last → list_all (upto last) rows ≡ true
all_upto [] last up h = refl
all_upto (row ∷ rows) last up h = let parts = last_behind row rows last up h in and _ _ parts.0 parts.1

-- so nothing has a path that is behind the last component above it, and above it
module _ (path top : List (List ℕ)) (above : Row) (beneath : is_beneath path top ≡ true) (later : is_lt (path_cmp above.path top) ≡ true) where
  none_there : (rows : List Row) → list_all (upto above) (filter (λ row. is_beneath path row.path) rows) ≡ true → list_any (at top) rows ≡ false
  none_there [] h = refl
  none_there (row ∷ rows) h = by (at top row) (is_beneath path row.path) refl (λ e. sym beneath ∙ ap (is_beneath path) (same_path_is top row.path e)) (λ e. sym later ∙ ap (λ t. is_lt (path_cmp above.path t)) (same_path_is top row.path e)) h (none_there rows)
    where
      by : (b c : Bool) → at top row ≡ b → (at top row ≡ true → true ≡ c) → (at top row ≡ true → true ≡ is_lt (path_cmp above.path row.path))
          → list_all (upto above) (cond c (row ∷ filter (λ other. is_beneath path other.path) rows) (filter (λ other. is_beneath path other.path) rows)) ≡ true
          → (list_all (upto above) (filter (λ other. is_beneath path other.path) rows) ≡ true → list_any (at top) rows ≡ false) → (b || list_any (at top) rows) ≡ false
      by true c e inside low k rest =
          let in_filter : list_all (upto above) (row ∷ filter (λ other. is_beneath path other.path) rows) ≡ true =
          subst (λ d. list_all (upto above) (cond d (row ∷ filter (λ other. is_beneath path other.path) rows) (filter (λ other. is_beneath path other.path) rows)) ≡ true) (sym (inside e)) k in
          absurd (differ (sym (both (upto above row) (list_all (upto above) (filter (λ other. is_beneath path other.path) rows)) in_filter).0 ∙ ap not (sym (low e))))
      by false true e inside low k rest = rest (both (upto above row) (list_all (upto above) (filter (λ other. is_beneath path other.path) rows)) k).1
      by false false e inside low k rest = rest k

  pub top_missing : (rows : List Row) → IsNamespace rows → ancestor path rows ≡ Some above → is_missing top rows ≡ true
  top_missing rows namespace found =
      missing_is top rows
      ∙ ap not (none_there rows (all_upto (filter (λ row. is_beneath path row.path) rows) above (ascending_filter (λ row. is_beneath path row.path) rows (namespace_tests rows namespace).ascending) found))

beneath_longer : (p : List (List ℕ)) (name : List ℕ) (names : List (List ℕ)) → is_beneath (p ++ name ∷ names) p ≡ true
beneath_longer [] name names = refl
beneath_longer (n ∷ ns) name names = and _ _ (name_self n) (beneath_longer ns name names)

-- what is made at a path has its top where nothing is, or at the path itself
pub under_top : (path : List (List ℕ)) (rows : List Row) (above : Row) (name : List ℕ) (names : List (List ℕ)) → IsNamespace rows → ancestor path rows ≡ Some above
    → path ≡ above.path ++ name ∷ names → rows_under (above.path ++ name ∷ []) rows ≡ rows_under path rows
under_top path rows above name [] namespace found is = ap (λ t. rows_under t rows) (sym is)
under_top path rows above name (next ∷ names) namespace found is =
    let top : List (List ℕ) = above.path ++ name ∷ [] in
    let whole : path ≡ top ++ next ∷ names = is ∙ sym (append_assoc above.path (name ∷ []) (next ∷ names)) in
    let beneath : is_beneath path top ≡ true = ap (λ t. is_beneath t top) whole ∙ beneath_longer top next names in
    let missing : is_missing top rows ≡ true = top_missing path top above beneath (ap is_lt (longer_less above.path name)) rows namespace found in
    let apart = missing_apart rows top namespace missing in
    none_under top rows apart ∙ sym (none_under path rows (apart_beneath top path rows (ap (is_prefix top) whole ∙ front_inside top (next ∷ names)) apart))

-- a path has a component above it, but the root, which is a directory
pub no_ancestor : (path : List (List ℕ)) (rows : List Row) → IsNamespace rows → ancestor path rows ≡ None → directory_there (row_at path rows) ≡ Some IsDirectory
no_ancestor path [] namespace none = cc
no_ancestor [] (root ∷ rows) namespace none =
    let roots = both (is_root root.path) (is_directory root) (namespace_tests (root ∷ rows) namespace).rooted in
    let there : at [] root ≡ true = ap (same_path []) (root_empty root.path roots.0) in
    ap (λ b. directory_there (first (cond b (root ∷ filter (at []) rows) (filter (at []) rows)))) there ∙ ap (λ b. cond b (Some IsDirectory) None) roots.1
  where
    root_empty : (p : List (List ℕ)) → is_root p ≡ true → p ≡ []
    root_empty [] h = refl
    root_empty (n ∷ ns) h = cc
no_ancestor (n ∷ ns) (root ∷ rows) namespace none =
    let roots = both (is_root root.path) (is_directory root) (namespace_tests (root ∷ rows) namespace).rooted in
    absurd (some_last root (filter (λ row. is_beneath (n ∷ ns) row.path) rows) (sym (ap (λ b. last_or None (cond b (root ∷ filter (λ row. is_beneath (n ∷ ns) row.path) rows) (filter (λ row. is_beneath (n ∷ ns) row.path) rows))) (above_all root.path roots.0)) ∙ none))
  where
    above_all : (p : List (List ℕ)) → is_root p ≡ true → is_beneath (n ∷ ns) p ≡ true
    above_all [] h = refl
    above_all (m ∷ ms) h = cc

    some_last : (row : Row) (others : List Row) → last_or (Some row) others ≡ None → ⊥
    some_last row [] e = cc
    some_last row (next ∷ others) e = some_last next others e
