-- A namespace without a sub-tree, and one with a row given anew, is a namespace; and so are their paths within the limits.
use Rattle.std.proofs.Common.{◌≡◌, ℕ, Bool, true, false, ◌&&◌, ◌||◌, List, [], ◌∷◌, ◌++◌, map, length, drop, append_assoc, refl, sym, ap, ◌∙◌, subst, cond, Option, Some, None}
use Rattle.std.proofs.Math.Seq.{take-append_seam}
use Rattle.std.proofs.lemmas.List.{take-append-drop}
use Rattle.std.specs.Prelude.{filter, not}
use Rattle.std.specs.List.{list_all, list_any}
use Rattle.std.specs.Cmp.{tied_itself}
use Rattle.std.specs.Ordering.{is_lt, is_eq}
use Rattle.file_paths.specs.Path.{is_path, is_prefix}
use Rattle.file_paths.specs.PathOrder.{path_cmp, same_path, paths_total}
use Rattle.file_paths.proofs.Fronts.{front_path}
use Rattle.acl_entries.specs.Acl.{Acl}
use Rattle.namespace_rows.specs.declared.file_row.FileRow.{FileRow}
use Rattle.namespace_rows.specs.declared.row.Row.{Row}
use Rattle.namespace_rows.specs.declared.row.Change.{Change}
use Rattle.namespace_rows.specs.declared.row.Change.TheVariants as change
use Rattle.std.specs.Option.{option_map}
use Rattle.acl_entries.specs.Acl.{suits_file}
use Rattle.namespace_rows.specs.Files.{with_state, with_file_replication, without_last, committed_at, completed_at, recovered_at}
use Rattle.namespace_rows.specs.First.{first}
use Rattle.namespace_rows.specs.Rows.{is_directory, row_at, ancestor, is_before, is_beyond, rows_replaced, with_sub_tree}
use Rattle.namespace_rows.specs.Namespace.{IsNamespace, is_ascending, is_before_all, is_child, has_parent, is_root, is_rooted, have_parents, suits_parts, suits_kind, fits}
use Rattle.flat_rows.specs.Outcome.{mode_of_new, file_of_new, new_row, new_rows}
use Rattle.namespace_rows.specs.Changes.{without, file_edited, with_change, row_rewritten, suits_row, suits_change, are_paths}
use Rattle.namespace_rows.proofs.Tests.{both, and, or_left, or_right, all_imp, all_both, all_append, all_filtered, all_kept}
use Rattle.namespace_rows.proofs.PathOrders.{less_is, child_starts, same_path_is}
use Rattle.flat_rows.proofs.NewDirectories.{starts_self, beneath_parts, ancestor_above}
use Rattle.namespace_rows.proofs.Namespaces.{Namespace, namespace_tests, ascending_filter}

pub namespace_of : (rows : List Row) → Namespace rows → IsNamespace rows
namespace_of rows tests = and _ _ (and _ _ (and _ _ tests.rooted tests.ascending) tests.held) tests.suit

pub not_true : (b : Bool) → not b ≡ true → b ≡ false
not_true true h = cc
not_true false h = refl

differ : true ≡ false → ⊥
differ h = cc

-- some row passes, and each that does is kept
pub any_kept : (p q : Row → Bool) → ((row : Row) → q row ≡ true → p row ≡ true) → (rows : List Row) → list_any q rows ≡ true → list_any q (filter p rows) ≡ true
any_kept p q f [] h = h
any_kept p q f (row ∷ rows) h = by_test (q row) (p row) refl refl h (any_kept p q f rows)
  where
    by_test : (b c : Bool) → q row ≡ b → p row ≡ c → (b || list_any q rows) ≡ true → (list_any q rows ≡ true → list_any q (filter p rows) ≡ true) → list_any q (cond c (row ∷ filter p rows) (filter p rows)) ≡ true
    by_test true true e g k others = or_left _ _ e
    by_test true false e g k others = absurd (differ (sym (f row e) ∙ g))
    by_test false true e g k others = or_right (q row) _ (others k)
    by_test false false e g k others = others k

-- without a sub-tree

root_empty : (p : List (List ℕ)) → is_root p ≡ true → p ≡ []
root_empty [] h = refl
root_empty (n ∷ ns) h = cc

module _ (path : List (List ℕ)) where
  abbrev kept : Row → Bool
  kept row = not (is_prefix path row.path)

  apart_is : (b : Bool) → (b ≡ true → false ≡ true) → not b ≡ true
  apart_is true f = f refl
  apart_is false f = refl

  parent_stays : (p : List (List ℕ)) (rows : List Row) → is_prefix path p ≡ false → has_parent p rows ≡ true → has_parent p (without path rows) ≡ true
  parent_stays p rows apart h =
      any_kept kept (λ a. is_child p a.path && is_directory a)
      (λ a held. apart_is (is_prefix path a.path) (λ s. sym apart ∙ child_starts p a.path path (both (is_child p a.path) (is_directory a) held).0 s)) rows h

  pub without_held : (rows : List Row) → have_parents rows rows ≡ true → have_parents (without path rows) (without path rows) ≡ true
  without_held rows h =
      all_imp (λ row. kept row && (is_root row.path || has_parent row.path rows)) (λ row. is_root row.path || has_parent row.path (without path rows))
      (λ row k. let parts = both (kept row) (is_root row.path || has_parent row.path rows) k in by_root row (is_root row.path) refl parts.0 parts.1)
      (without path rows) (all_both kept (λ row. is_root row.path || has_parent row.path rows) (without path rows) (all_filtered kept rows) (all_kept kept (λ row. is_root row.path || has_parent row.path rows) rows h))
    where
      by_root : (row : Row) (b : Bool) → is_root row.path ≡ b → kept row ≡ true → (b || has_parent row.path rows) ≡ true → (b || has_parent row.path (without path rows)) ≡ true
      by_root row true e k held = refl
      by_root row false e k held = parent_stays row.path rows (not_true (is_prefix path row.path) k) held

pub without_rooted : (path : List (List ℕ)) (rows : List Row) → is_root path ≡ false → is_rooted rows ≡ true → is_rooted (without path rows) ≡ true
without_rooted path [] below h = cc
without_rooted [] (root ∷ rows) below h = cc
without_rooted (n ∷ ns) (root ∷ rows) below h =
    let top : kept (n ∷ ns) root ≡ true = ap (λ p. not (is_prefix (n ∷ ns) p)) (root_empty root.path (both (is_root root.path) (is_directory root) h).0) in
    ap (λ b. is_rooted (cond b (root ∷ without (n ∷ ns) rows) (without (n ∷ ns) rows))) top ∙ h

pub without_namespace : (path : List (List ℕ)) (rows : List Row) → is_root path ≡ false → IsNamespace rows → IsNamespace (without path rows)
without_namespace path rows below h =
    let tests = namespace_tests rows h in
    namespace_of (without path rows)
    (record {
      rooted = without_rooted path rows below tests.rooted;
      ascending = ascending_filter (kept path) rows tests.ascending;
      held = without_held path rows tests.held;
      suit = all_kept (kept path) suits_kind rows tests.suit;
    })

-- paths

pub without_paths : (path : List (List ℕ)) (rows : List Row) → are_paths rows ≡ true → are_paths (without path rows) ≡ true
without_paths path rows h = all_kept (kept path) (λ row. is_path row.path) rows h

pub replaced_paths : (path : List (List ℕ)) (block rows : List Row) → are_paths block ≡ true → are_paths rows ≡ true → are_paths (rows_replaced path block rows) ≡ true
replaced_paths path block rows h k =
    all_append (λ row. is_path row.path) (filter (is_before path) rows) (block ++ filter (is_beyond path) rows) (all_kept (is_before path) (λ row. is_path row.path) rows k)
    (all_append (λ row. is_path row.path) block (filter (is_beyond path) rows) h (all_kept (is_beyond path) (λ row. is_path row.path) rows k))

pub with_sub_tree_paths : (block rows : List Row) → are_paths block ≡ true → are_paths rows ≡ true → are_paths (with_sub_tree rows block) ≡ true
with_sub_tree_paths [] rows h k = k
with_sub_tree_paths (top ∷ beneath) rows h k = replaced_paths top.path (top ∷ beneath) rows h k

-- one row fits where a directory holds its path

pub same_self : (p : List (List ℕ)) → same_path p p ≡ true
same_self p = ap is_eq (tied_itself paths_total p)

pub row_fits : (row : Row) (rows : List Row) → has_parent row.path rows ≡ true → suits_kind row ≡ true → fits rows (row ∷ []) ≡ true
row_fits row rows held suits =
    and _ _ held (and _ _ (and _ _ (and _ _ (and _ _ (starts_self row.path) refl) refl) (and _ _ (or_left _ _ (same_self row.path)) refl)) (and _ _ suits refl))

-- a row given anew

module _ (f : Row → Row) (paths : (row : Row) → (f row).path ≡ row.path) (kinds : (row : Row) → is_directory (f row) ≡ is_directory row) where
  all_map : (p q : Row → Bool) → ((row : Row) → p (f row) ≡ q row) → (rows : List Row) → list_all p (map f rows) ≡ list_all q rows
  all_map p q h [] = refl
  all_map p q h (row ∷ rows) = rw (h row, all_map p q h rows) refl

  any_map : (p q : Row → Bool) → ((row : Row) → p (f row) ≡ q row) → (rows : List Row) → list_any p (map f rows) ≡ list_any q rows
  any_map p q h [] = refl
  any_map p q h (row ∷ rows) = rw (h row, any_map p q h rows) refl

  map_before : (row : Row) (rows : List Row) → is_before_all (f row) (map f rows) ≡ is_before_all row rows
  map_before row rows =
      all_map (λ other. is_lt (path_cmp (f row).path other.path)) (λ other. is_lt (path_cmp row.path other.path)) (λ other. ap (λ p. is_lt (path_cmp p (f other).path)) (paths row) ∙ ap (λ p. is_lt (path_cmp row.path p)) (paths other)) rows

  map_ascending : (rows : List Row) → is_ascending (map f rows) ≡ is_ascending rows
  map_ascending [] = refl
  map_ascending (row ∷ rows) = rw (map_before row rows, map_ascending rows) refl

  map_parent : (p : List (List ℕ)) (rows : List Row) → has_parent p (map f rows) ≡ has_parent p rows
  map_parent p rows = any_map (λ a. is_child p a.path && is_directory a) (λ a. is_child p a.path && is_directory a) (λ a. ap (λ q. is_child p q && is_directory (f a)) (paths a) ∙ ap (λ d. is_child p a.path && d) (kinds a)) rows

  map_held : (rows : List Row) → have_parents (map f rows) (map f rows) ≡ have_parents rows rows
  map_held rows =
      all_map (λ row. is_root row.path || has_parent row.path (map f rows)) (λ row. is_root row.path || has_parent row.path rows)
      (λ row. ap (λ q. is_root q || has_parent q (map f rows)) (paths row) ∙ ap (λ d. is_root row.path || d) (map_parent row.path rows)) rows

  map_rooted : (rows : List Row) → is_rooted (map f rows) ≡ is_rooted rows
  map_rooted [] = refl
  map_rooted (row ∷ rows) = ap (λ q. is_root q && is_directory (f row)) (paths row) ∙ ap (λ d. is_root row.path && d) (kinds row)

  map_paths : (rows : List Row) → are_paths (map f rows) ≡ are_paths rows
  map_paths rows = all_map (λ row. is_path row.path) (λ row. is_path row.path) (λ row. ap is_path (paths row)) rows

  pub map_namespace : (rows : List Row) → IsNamespace rows → list_all suits_kind (map f rows) ≡ true → IsNamespace (map f rows)
  map_namespace rows h suits =
      let tests = namespace_tests rows h in
      namespace_of (map f rows) (record { rooted = map_rooted rows ∙ tests.rooted; ascending = map_ascending rows ∙ tests.ascending; held = map_held rows ∙ tests.held; suit = suits })

-- each change leaves the path and the kind

pub changed_path : (change : Change) (row : Row) → (with_change change row).path ≡ row.path
changed_path (change.Owner owner group) row = refl
changed_path (change.List acl) row = refl
changed_path (change.State state) row = refl
changed_path (change.Replication replication) row = refl
changed_path (change.Committed block bytes) row = refl
changed_path (change.Completed block bytes) row = refl
changed_path change.LastTaken row = refl
changed_path (change.Recovered block bytes) row = refl

changed_kind : (change : Change) (row : Row) → is_directory (with_change change row) ≡ is_directory row
changed_kind (change.Owner owner group) row = refl
changed_kind (change.List acl) row = refl
changed_kind (change.State state) row = refl
changed_kind (change.Replication replication) row = refl
changed_kind (change.Committed block bytes) row = refl
changed_kind (change.Completed block bytes) row = refl
changed_kind change.LastTaken row = refl
changed_kind (change.Recovered block bytes) row = refl

-- and what it suits stays suited

listed_suits : (b : Bool) (old acl : Acl) (file : Option FileRow) → suits_parts b old file ≡ true → (b || suits_file acl) ≡ true → suits_parts b acl file ≡ true
listed_suits true old acl None h k = refl
listed_suits true old acl (Some file) h k = cc
listed_suits false old acl None h k = cc
listed_suits false old acl (Some file) h k = k

filed_suits : (f : FileRow → FileRow) (b : Bool) (acl : Acl) (file : Option FileRow) → suits_parts b acl file ≡ true → suits_parts b acl (option_map f file) ≡ true
filed_suits f true acl None h = refl
filed_suits f true acl (Some file) h = cc
filed_suits f false acl None h = cc
filed_suits f false acl (Some file) h = h

pub changed_suits : (change : Change) (row : Row) → suits_kind row ≡ true → suits_row change row ≡ true → suits_kind (with_change change row) ≡ true
changed_suits (change.Owner owner group) row h k = h
changed_suits (change.List acl) row h k = listed_suits (is_directory row) row.acl acl row.file h k
changed_suits (change.State state) row h k = filed_suits (with_state state) (is_directory row) row.acl row.file h
changed_suits (change.Replication replication) row h k = filed_suits (with_file_replication replication) (is_directory row) row.acl row.file h
changed_suits (change.Committed block bytes) row h k = filed_suits (committed_at block bytes) (is_directory row) row.acl row.file h
changed_suits (change.Completed block bytes) row h k = filed_suits (completed_at block bytes) (is_directory row) row.acl row.file h
changed_suits change.LastTaken row h k = filed_suits without_last (is_directory row) row.acl row.file h
changed_suits (change.Recovered block bytes) row h k = filed_suits (recovered_at block bytes) (is_directory row) row.acl row.file h

module _ (path : List (List ℕ)) (change : Change) where
  abbrev anew : Row → Row
  anew row = cond (same_path path row.path) (with_change change row) row

  anew_path : (row : Row) → (anew row).path ≡ row.path
  anew_path row = by (same_path path row.path)
    where
      by : (b : Bool) → (cond b (with_change change row) row).path ≡ row.path
      by true = changed_path change row
      by false = refl

  anew_kind : (row : Row) → is_directory (anew row) ≡ is_directory row
  anew_kind row = by (same_path path row.path)
    where
      by : (b : Bool) → is_directory (cond b (with_change change row) row) ≡ is_directory row
      by true = changed_kind change row
      by false = refl

  -- behind the row of the path there is none other of it
  behind_suits : (row : Row) (rows : List Row) → same_path path row.path ≡ true → is_before_all row rows ≡ true → list_all suits_kind rows ≡ true → list_all suits_kind (map anew rows) ≡ true
  behind_suits row [] at low h = refl
  behind_suits row (other ∷ rows) at low h =
      let lows = both (is_lt (path_cmp row.path other.path)) (is_before_all row rows) low in
      let hs = both (suits_kind other) (list_all suits_kind rows) h in
      let apart : same_path path other.path ≡ false = ap (λ p. same_path p other.path) (same_path_is path row.path at) ∙ ap is_eq (less_is _ lows.0) in
      and _ _ (ap (λ b. suits_kind (cond b (with_change change other) other)) apart ∙ hs.0) (behind_suits row rows at lows.1 hs.1)

  rewritten_suits : (rows : List Row) → is_ascending rows ≡ true → list_all suits_kind rows ≡ true → suits_change change (row_at path rows) ≡ true → list_all suits_kind (map anew rows) ≡ true
  rewritten_suits [] up h suits = refl
  rewritten_suits (row ∷ rows) up h suits =
      let ups = both (is_before_all row rows) (is_ascending rows) up in
      let hs = both (suits_kind row) (list_all suits_kind rows) h in
      by (same_path path row.path) refl suits (λ at. behind_suits row rows at ups.0 hs.1) hs.0 (rewritten_suits rows ups.1 hs.1)
    where
      by : (b : Bool) → same_path path row.path ≡ b → suits_change change (first (cond b (row ∷ filter (λ r. same_path path r.path) rows) (filter (λ r. same_path path r.path) rows))) ≡ true
          → (same_path path row.path ≡ true → list_all suits_kind (map anew rows) ≡ true) → suits_kind row ≡ true → (suits_change change (row_at path rows) ≡ true → list_all suits_kind (map anew rows) ≡ true)
          → list_all suits_kind (cond b (with_change change row) row ∷ map anew rows) ≡ true
      by true e s behind own others = and _ _ (changed_suits change row own s) (behind e)
      by false e s behind own others = and _ _ own (others s)

  pub rewritten_namespace : (rows : List Row) → IsNamespace rows → suits_change change (row_at path rows) ≡ true → IsNamespace (row_rewritten path change rows)
  rewritten_namespace rows h suits = let tests = namespace_tests rows h in map_namespace anew anew_path anew_kind rows h (rewritten_suits rows tests.ascending tests.suit suits)

  pub rewritten_paths : (rows : List Row) → are_paths rows ≡ true → are_paths (row_rewritten path change rows) ≡ true
  rewritten_paths rows h = map_paths anew anew_path anew_kind rows ∙ h

-- the file of a row edited where the row passes a test

module _ (edit : FileRow → FileRow) (test : Row → Bool) where
  abbrev edited_where : Row → Row
  edited_where row = cond (test row) (file_edited edit row) row

  edited_path : (row : Row) → (edited_where row).path ≡ row.path
  edited_path row = by (test row)
    where
      by : (b : Bool) → (cond b (file_edited edit row) row).path ≡ row.path
      by true = refl
      by false = refl

  edited_kind : (row : Row) → is_directory (edited_where row) ≡ is_directory row
  edited_kind row = by (test row)
    where
      by : (b : Bool) → is_directory (cond b (file_edited edit row) row) ≡ is_directory row
      by true = refl
      by false = refl

  edited_suits : (rows : List Row) → list_all suits_kind rows ≡ true → list_all suits_kind (map edited_where rows) ≡ true
  edited_suits [] h = refl
  edited_suits (row ∷ rows) h = let hs = both (suits_kind row) (list_all suits_kind rows) h in and _ _ (by (test row) hs.0) (edited_suits rows hs.1)
    where
      by : (b : Bool) → suits_kind row ≡ true → suits_kind (cond b (file_edited edit row) row) ≡ true
      by true k = filed_suits edit (is_directory row) row.acl row.file k
      by false k = k

  pub edited_namespace : (rows : List Row) → IsNamespace rows → IsNamespace (map edited_where rows)
  edited_namespace rows h = map_namespace edited_where edited_path edited_kind rows h (edited_suits rows (namespace_tests rows h).suit)

  pub edited_paths : (rows : List Row) → are_paths rows ≡ true → are_paths (map edited_where rows) ≡ true
  edited_paths rows h = map_paths edited_where edited_path edited_kind rows ∙ h

-- the paths of new directories are fronts of the path

path_front : (p q : List (List ℕ)) → is_path (p ++ q) ≡ true → is_path p ≡ true
path_front p q h = subst (λ x. is_path x ≡ true) (take-append_seam p q) (front_path (p ++ q) (length p) h)

module _ (owner : List ℕ) (mode : ℕ) (file : Option FileRow) where
  new_paths : (above : Row) (names : List (List ℕ)) → is_path (above.path ++ names) ≡ true → are_paths (new_rows above owner mode file names) ≡ true
  new_paths above [] h = refl
  new_paths above (name ∷ names) h =
      let more : is_path ((above.path ++ name ∷ []) ++ names) ≡ true = ap is_path (append_assoc above.path (name ∷ []) names) ∙ h in
      and _ _ (path_front (above.path ++ name ∷ []) names more) (new_paths (new_row above owner (mode_of_new mode names) (file_of_new file names) name) names more)

  pub missing_paths : (path : List (List ℕ)) (rows : List Row) (above : Row) → ancestor path rows ≡ Some above → is_path path ≡ true → are_paths (new_rows above owner mode file (drop (length above.path) path)) ≡ true
  missing_paths path rows above found h =
      let parts = beneath_parts path above.path (ancestor_above path rows above found) in
      let whole : above.path ++ drop (length above.path) path ≡ path = ap (λ p. p ++ drop (length above.path) path) (sym parts.front) ∙ take-append-drop (length above.path) path in
      new_paths above (drop (length above.path) path) (ap is_path whole ∙ h)
