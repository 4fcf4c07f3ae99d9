-- A namespace in which a sub-tree stands at another path is a namespace.
use Rattle.std.proofs.Common.{◌≡◌, ℕ, Bool, true, false, ◌&&◌, ◌||◌, List, [], ◌∷◌, ◌++◌, map, length, drop, refl, sym, ap, ◌∙◌, Ordering, Less, Equal, Greater}
use Rattle.std.specs.Prelude.{not}
use Rattle.std.specs.List.{list_all, list_any}
use Rattle.std.specs.Cmp.{tied_itself}
use Rattle.std.specs.Ordering.{is_lt, is_eq, ordering_then}
use Rattle.std.proofs.lemmas.Cmp.{nat_list_cmp_total}
use Rattle.hdfs_values.specs.Text.{same, text_cmp}
use Rattle.file_paths.specs.Path.{is_prefix}
use Rattle.file_paths.specs.PathOrder.{path_cmp, same_path}
use Rattle.hdfs_values.proofs.Texts.{same_is, same_self}
use Rattle.namespace_rows.specs.declared.row.Row.{Row}
use Rattle.namespace_rows.specs.Rows.{is_directory}
use Rattle.namespace_rows.specs.Namespace.{IsNamespace, is_ascending, is_before_all, is_child, has_parent, is_root, have_parents, suits_kind}
use Rattle.namespace_rows.specs.Changes.{rows_under, without, moved_row, with_rows_moved}
use Rattle.namespace_rows.proofs.Tests.{both, and, or_left, or_right, all_filtered, all_kept}
use Rattle.namespace_rows.proofs.PathOrders.{child_starts}
use Rattle.namespace_rows.proofs.Namespaces.{namespace_tests, ascending_filter, replaced_rooted, replaced_ascending, replaced_held, replaced_suits}
use Rattle.flat_rows.proofs.Changes.{namespace_of, any_kept, without_held, without_rooted}

-- paths with a common front

pub front_itself : (n : List ℕ) → text_cmp n n ≡ Equal
front_itself n = tied_itself nat_list_cmp_total n

pub front_cmp : (p a b : List (List ℕ)) → path_cmp (p ++ a) (p ++ b) ≡ path_cmp a b
front_cmp [] a b = refl
front_cmp (n ∷ ns) a b = rw (front_itself n) (front_cmp ns a b)

pub front_child : (p a b : List (List ℕ)) → is_child (p ++ a) (p ++ b) ≡ is_child a b
front_child [] a b = refl
front_child (n ∷ ns) a b = by (ns ++ a) (ns ++ b) (front_child ns a b)
  where
    by : (x y : List (List ℕ)) → is_child x y ≡ is_child a b → is_child (n ∷ x) (n ∷ y) ≡ is_child a b
    by [] y e = rw (same_self n) e
    by (m ∷ x) y e = rw (same_self n) e

pub front_at : (p a : List (List ℕ)) → same_path p (p ++ a) ≡ same_path [] a
front_at [] a = refl
front_at (n ∷ ns) a = rw (front_itself n) (front_at ns a)

pub front_inside : (p a : List (List ℕ)) → is_prefix p (p ++ a) ≡ true
front_inside [] a = refl
front_inside (n ∷ ns) a = and _ _ (same_self n) (front_inside ns a)

pub front_and_rest : (p q : List (List ℕ)) → is_prefix p q ≡ true → q ≡ p ++ drop (length p) q
front_and_rest [] q h = refl
front_and_rest (n ∷ ns) [] h = cc
front_and_rest (n ∷ ns) (m ∷ ms) h =
    let parts = both (same n m) (is_prefix ns ms) h in
    ap (λ k. k ∷ ms) (sym (same_is n m parts.0)) ∙ ap (λ ks. n ∷ ks) (front_and_rest ns ms parts.1)

-- the parent of what is properly beneath a path is at or beneath it
pub parent_inside : (p q a : List (List ℕ)) → is_prefix p q ≡ true → same_path p q ≡ false → is_child q a ≡ true → is_prefix p a ≡ true
parent_inside [] q a h apart c = refl
parent_inside (n ∷ ns) [] a h apart c = cc
parent_inside (n ∷ ns) (m ∷ []) [] h apart c =
    let parts = both (same n m) (is_prefix ns []) h in
    absurd (no (sym apart ∙ ap (λ o. is_eq (ordering_then o (path_cmp ns []))) (tied (text_cmp n m) parts.0) ∙ by ns parts.1))
  where
    no : false ≡ true → ⊥
    no d = cc

    tied : (o : Ordering) → is_eq o ≡ true → o ≡ Equal
    tied Less k = cc
    tied Equal k = refl
    tied Greater k = cc

    by : (xs : List (List ℕ)) → is_prefix xs [] ≡ true → is_eq (path_cmp xs []) ≡ true
    by [] k = refl
    by (x ∷ xs) k = cc
parent_inside (n ∷ ns) (m ∷ k ∷ ms) [] h apart c = cc
parent_inside (n ∷ ns) (m ∷ ms) (o ∷ os) h apart c =
    let parts = both (same n m) (is_prefix ns ms) h in
    let cs = step m o ms os c in
    and _ _ (ap (same n) (sym (same_is m o cs.0)) ∙ parts.0) (parent_inside ns ms os parts.1 (sym (ap (λ x. is_eq (ordering_then x (path_cmp ns ms))) (tied (text_cmp n m) parts.0)) ∙ apart) cs.1)
  where
    tied : (o : Ordering) → is_eq o ≡ true → o ≡ Equal
    tied Less k = cc
    tied Equal k = refl
    tied Greater k = cc

    step : (m o : List ℕ) (ms os : List (List ℕ)) → is_child (m ∷ ms) (o ∷ os) ≡ true → (same m o ≡ true) × (is_child ms os ≡ true)
    step m o [] os k = both (same m o) (is_child [] os) k
    step m o (x ∷ xs) os k = both (same m o) (is_child (x ∷ xs) os) k

-- a row that was moved, beside another

module _ (from to : List (List ℕ)) where
  abbrev inside : Row → Bool
  inside row = is_prefix from row.path

  abbrev rest : Row → List (List ℕ)
  rest row = drop (length from) row.path

  moved_cmp : (a b : Row) → inside a ≡ true → inside b ≡ true → path_cmp (moved_row from to a).path (moved_row from to b).path ≡ path_cmp a.path b.path
  moved_cmp a b h k =
      front_cmp to (rest a) (rest b) ∙ sym (front_cmp from (rest a) (rest b)) ∙ sym (ap (λ p. path_cmp p b.path) (front_and_rest from a.path h) ∙ ap (path_cmp (from ++ rest a)) (front_and_rest from b.path k))

  moved_child : (a b : Row) → inside a ≡ true → inside b ≡ true → is_child (moved_row from to a).path (moved_row from to b).path ≡ is_child a.path b.path
  moved_child a b h k =
      front_child to (rest a) (rest b) ∙ sym (front_child from (rest a) (rest b)) ∙ sym (ap (λ p. is_child p b.path) (front_and_rest from a.path h) ∙ ap (is_child (from ++ rest a)) (front_and_rest from b.path k))

  moved_at : (a : Row) → inside a ≡ true → same_path to (moved_row from to a).path ≡ same_path from a.path
  moved_at a h = front_at to (rest a) ∙ sym (front_at from (rest a)) ∙ sym (ap (same_path from) (front_and_rest from a.path h))

  all_moved : (p q : Row → Bool) → ((row : Row) → inside row ≡ true → p row ≡ true → q (moved_row from to row) ≡ true) → (rows : List Row) → list_all inside rows ≡ true → list_all p rows ≡ true → list_all q (map (moved_row from to) rows) ≡ true
  all_moved p q f [] i h = refl
  all_moved p q f (row ∷ rows) i h =
      let is = both (inside row) (list_all inside rows) i in
      let hs = both (p row) (list_all p rows) h in
      and _ _ (f row is.0 hs.0) (all_moved p q f rows is.1 hs.1)

  any_moved : (p q : Row → Bool) → ((row : Row) → inside row ≡ true → p row ≡ true → q (moved_row from to row) ≡ true) → (rows : List Row) → list_all inside rows ≡ true → list_any p rows ≡ true → list_any q (map (moved_row from to) rows) ≡ true
  any_moved p q f [] i h = cc
  any_moved p q f (row ∷ rows) i h =
      let is = both (inside row) (list_all inside rows) i in
      by (p row) refl h is.0 (any_moved p q f rows is.1)
    where
      by : (b : Bool) → p row ≡ b → (b || list_any p rows) ≡ true → inside row ≡ true → (list_any p rows ≡ true → list_any q (map (moved_row from to) rows) ≡ true) → (q (moved_row from to row) || list_any q (map (moved_row from to) rows)) ≡ true
      by true e k i others = or_left _ _ (f row i e)
      by false e k i others = or_right (q (moved_row from to row)) _ (others k)

  moved_ascending : (rows : List Row) → list_all inside rows ≡ true → is_ascending rows ≡ true → is_ascending (map (moved_row from to) rows) ≡ true
  moved_ascending [] i up = refl
  moved_ascending (row ∷ rows) i up =
      let is = both (inside row) (list_all inside rows) i in
      let ups = both (is_before_all row rows) (is_ascending rows) up in
      and _ _
      (all_moved (λ other. is_lt (path_cmp row.path other.path)) (λ other. is_lt (path_cmp (moved_row from to row).path other.path)) (λ other k low. ap is_lt (moved_cmp row other is.0 k) ∙ low) rows is.1 ups.0)
      (moved_ascending rows is.1 ups.1)

  abbrev block : List Row → List Row
  block rows = map (moved_row from to) (rows_under from rows)

  under_inside : (rows : List Row) → list_all inside (rows_under from rows) ≡ true
  under_inside rows = all_filtered inside rows

  moved_inside : (rows : List Row) → list_all (λ row. is_prefix to row.path) (block rows) ≡ true
  moved_inside rows = all_moved inside (λ row. is_prefix to row.path) (λ row i k. front_inside to (rest row)) (rows_under from rows) (under_inside rows) (under_inside rows)

  not_root : (row : Row) → is_prefix from to ≡ false → inside row ≡ true → is_root row.path ≡ false
  not_root row apart i = by from row.path apart i
    where
      by : (f p : List (List ℕ)) → is_prefix f to ≡ false → is_prefix f p ≡ true → is_root p ≡ false
      by [] p a k = cc
      by (n ∷ ns) [] a k = cc
      by (n ∷ ns) (m ∷ ms) a k = refl

  -- the parent of each moved row but the top was moved with it
  moved_held : (rows : List Row) → is_prefix from to ≡ false → have_parents rows rows ≡ true → list_all (λ row. same_path to row.path || has_parent row.path (block rows)) (block rows) ≡ true
  moved_held rows apart held =
      all_moved (λ row. is_root row.path || has_parent row.path rows) (λ row. same_path to row.path || has_parent row.path (block rows)) (λ row i h. by_top row i h (same_path from row.path) refl) (rows_under from rows) (under_inside rows)
      (all_kept inside (λ row. is_root row.path || has_parent row.path rows) rows held)
    where
      has : (row : Row) → inside row ≡ true → same_path from row.path ≡ false → has_parent row.path rows ≡ true → has_parent (moved_row from to row).path (block rows) ≡ true
      has row i e h =
          any_moved (λ a. is_child row.path a.path && is_directory a) (λ a. is_child (moved_row from to row).path a.path && is_directory a)
          (λ a k held. let parts = both (is_child row.path a.path) (is_directory a) held in and _ _ (moved_child row a i k ∙ parts.0) parts.1) (rows_under from rows) (under_inside rows)
          (any_kept inside (λ a. is_child row.path a.path && is_directory a) (λ a held. parent_inside from row.path a.path i e (both (is_child row.path a.path) (is_directory a) held).0) rows h)

      by_top : (row : Row) → inside row ≡ true → (is_root row.path || has_parent row.path rows) ≡ true → (b : Bool) → same_path from row.path ≡ b → (same_path to (moved_row from to row).path || has_parent (moved_row from to row).path (block rows)) ≡ true
      by_top row i h true e = or_left _ _ (moved_at row i ∙ e)
      by_top row i h false e = or_right (same_path to (moved_row from to row).path) _ (has row i e (ap (λ b. b || has_parent row.path rows) (sym (not_root row apart i)) ∙ h))

  parent_away : (rows : List Row) → is_prefix from to ≡ false → has_parent to rows ≡ true → has_parent to (without from rows) ≡ true
  parent_away rows apart h =
      any_kept (λ row. not (is_prefix from row.path)) (λ a. is_child to a.path && is_directory a)
      (λ a held. by (is_prefix from a.path) (λ s. sym apart ∙ child_starts to a.path from (both (is_child to a.path) (is_directory a) held).0 s)) rows h
    where
      by : (b : Bool) → (b ≡ true → false ≡ true) → not b ≡ true
      by true f = f refl
      by false f = refl

  from_not_root : is_prefix from to ≡ false → is_root from ≡ false
  from_not_root apart = by from apart
    where
      by : (f : List (List ℕ)) → is_prefix f to ≡ false → is_root f ≡ false
      by [] a = cc
      by (n ∷ ns) a = refl

  -- the directory of the new path isn't moved itself
  pub moved_namespace : (rows : List Row) → is_prefix from to ≡ false → has_parent to rows ≡ true → IsNamespace rows → IsNamespace (with_rows_moved from to rows)
  moved_namespace rows apart held h =
      let tests = namespace_tests rows h in
      let left : List Row = without from rows in
      let top : has_parent to left ≡ true = parent_away rows apart held in
      let suits : list_all suits_kind (block rows) ≡ true =
      all_moved suits_kind suits_kind (λ row i s. s) (rows_under from rows) (under_inside rows) (all_kept inside suits_kind rows tests.suit) in
      namespace_of (with_rows_moved from to rows)
      (record {
        rooted = replaced_rooted to left (block rows) (without_rooted from rows (from_not_root apart) tests.rooted) top;
        ascending =
            replaced_ascending to left (block rows) (ascending_filter (λ row. not (is_prefix from row.path)) rows tests.ascending)
            (moved_ascending (rows_under from rows) (under_inside rows) (ascending_filter inside rows tests.ascending)) (moved_inside rows);
        held = replaced_held to left (block rows) (without_held from rows tests.held) top (moved_held rows apart tests.held);
        suit = replaced_suits to left (block rows) (all_kept (λ row. not (is_prefix from row.path)) suits_kind rows tests.suit) suits;
      })
