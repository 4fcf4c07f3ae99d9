-- A namespace with the rows of a new sub-tree is a namespace.
use Rattle.std.proofs.Common.{◌≡◌, ℕ, Bool, true, false, ◌&&◌, ◌||◌, List, [], ◌∷◌, ◌++◌, refl, sym, ap, ◌∙◌, Ordering, Less, Equal, Greater, cond}
use Rattle.std.specs.Prelude.{filter, not}
use Rattle.std.specs.List.{list_all, list_any}
use Rattle.std.specs.Ordering.{is_gt, is_lt}
use Rattle.std.proofs.lemmas.List.Folds.{list_any-append}
use Rattle.file_paths.specs.Path.{is_prefix}
use Rattle.file_paths.specs.PathOrder.{path_cmp, same_path, paths_total}
use Rattle.namespace_rows.specs.declared.row.Row.{Row}
use Rattle.namespace_rows.specs.Rows.{is_directory, is_before, is_beyond, rows_replaced, with_sub_tree}
use Rattle.namespace_rows.specs.Namespace.{IsNamespace, is_ascending, is_before_all, is_child, has_parent, is_root, is_rooted, have_parents, suits_kind, is_sub_tree, fits}
use Rattle.namespace_rows.proofs.Tests.{both, and, or_left, or_right, all_imp, all_both, all_append, all_filtered, all_kept, any_parted}
use Rattle.namespace_rows.proofs.PathOrders.{less_is, greater_is, starts_upto, tied_starts, less_upto, greater_back, beyond_starts, child_starts, child_apart, same_path_is}

-- order

pub ascending_filter : (p : Row → Bool) (rows : List Row) → is_ascending rows ≡ true → is_ascending (filter p rows) ≡ true
ascending_filter p [] h = refl
ascending_filter p (row ∷ rows) h =
    let parts = both (is_before_all row rows) (is_ascending rows) h in
    by_head (p row) (all_kept p (λ other. is_lt (path_cmp row.path other.path)) rows parts.0) (ascending_filter p rows parts.1)
  where
    by_head : (b : Bool) → is_before_all row (filter p rows) ≡ true → is_ascending (filter p rows) ≡ true → is_ascending (cond b (row ∷ filter p rows) (filter p rows)) ≡ true
    by_head true here others = and _ _ here others
    by_head false here others = others

pub ascending_append : (xs ys : List Row) → is_ascending xs ≡ true → is_ascending ys ≡ true → list_all (λ x. is_before_all x ys) xs ≡ true → is_ascending (xs ++ ys) ≡ true
ascending_append [] ys h k low = k
ascending_append (x ∷ xs) ys h k low =
    let hs = both (is_before_all x xs) (is_ascending xs) h in
    let lows = both (is_before_all x ys) (list_all (λ x. is_before_all x ys) xs) low in
    and _ _ (all_append (λ other. is_lt (path_cmp x.path other.path)) xs ys hs.0 lows.0) (ascending_append xs ys hs.1 k lows.1)

module _ (path : List (List ℕ)) where
  before_apart : (row : Row) → is_before path row ≡ true → is_prefix path row.path ≡ false
  before_apart row h = by_test (is_prefix path row.path) refl
    where
      by_test : (b : Bool) → is_prefix path row.path ≡ b → b ≡ false
      by_test true e = sym h ∙ starts_upto path row.path e
      by_test false e = refl

  not_true : (b : Bool) → not b ≡ true → b ≡ false
  not_true true h = cc
  not_true false h = refl

  beyond_apart : (row : Row) → is_beyond path row ≡ true → is_prefix path row.path ≡ false
  beyond_apart row h = not_true _ (both (is_lt (path_cmp path row.path)) (not (is_prefix path row.path)) h).1

  kept_where_apart : (row : Row) → is_prefix path row.path ≡ false → (is_before path row || is_beyond path row) ≡ true
  kept_where_apart row apart = by_order (path_cmp path row.path) (is_prefix path row.path) refl apart
    where
      by_order : (o : Ordering) (s : Bool) → path_cmp path row.path ≡ o → s ≡ false → (is_gt o || (is_lt o && not s)) ≡ true
      by_order Less s e a = ap not a
      by_order Equal s e a = absurd (differ (sym (tied_starts path row.path e) ∙ apart))
        where
          differ : true ≡ false → ⊥
          differ d = cc
      by_order Greater s e a = refl

  before_sub_tree : (row : Row) (block : List Row) → is_before path row ≡ true → list_all (λ other. is_prefix path other.path) block ≡ true → is_before_all row block ≡ true
  before_sub_tree row block h inside =
      all_imp (λ other. is_prefix path other.path) (λ other. is_lt (path_cmp row.path other.path))
      (λ other s. ap is_lt (less_upto paths_total row.path path other.path (greater_back path row.path (greater_is _ h)) (starts_upto path other.path s))) block inside

  before_beyond : (row : Row) (rows : List Row) → is_before path row ≡ true → list_all (is_beyond path) rows ≡ true → is_before_all row rows ≡ true
  before_beyond row rows h beyond =
      all_imp (is_beyond path) (λ other. is_lt (path_cmp row.path other.path))
      (λ other b. ap is_lt (paths_total.trans row.path path other.path (greater_back path row.path (greater_is _ h)) (less_is _ (both (is_lt (path_cmp path other.path)) (not (is_prefix path other.path)) b).0)))
      rows beyond

  sub_tree_beyond : (row : Row) (rows : List Row) → is_prefix path row.path ≡ true → list_all (is_beyond path) rows ≡ true → is_before_all row rows ≡ true
  sub_tree_beyond row rows h beyond =
      all_imp (is_beyond path) (λ other. is_lt (path_cmp row.path other.path))
      (λ other b. ap is_lt (beyond_starts path other.path row.path (less_is _ (both (is_lt (path_cmp path other.path)) (not (is_prefix path other.path)) b).0) (beyond_apart other b) h))
      rows beyond

  module _ (rows block : List Row) where
    abbrev below : List Row
    below = filter (is_before path) rows

    abbrev above : List Row
    above = filter (is_beyond path) rows

    pub replaced_ascending : is_ascending rows ≡ true → is_ascending block ≡ true → list_all (λ row. is_prefix path row.path) block ≡ true → is_ascending (rows_replaced path block rows) ≡ true
    replaced_ascending up own inside =
        let beyond = all_filtered (is_beyond path) rows in
        let rest = ascending_append block above own (ascending_filter (is_beyond path) rows up)
        (all_imp (λ row. is_prefix path row.path) (λ row. is_before_all row above) (λ row s. sub_tree_beyond row above s beyond) block inside) in
        ascending_append below (block ++ above) (ascending_filter (is_before path) rows up) rest
        (all_imp (is_before path) (λ row. is_before_all row (block ++ above))
        (λ row b. all_append (λ other. is_lt (path_cmp row.path other.path)) block above (before_sub_tree row block b inside) (before_beyond row above b beyond)) below (all_filtered (is_before path) rows))

    around : (a b c : Bool) → (a || c) ≡ true → (a || (b || c)) ≡ true
    around true b c h = refl
    around false true c h = refl
    around false false c h = h

    parted : (q : Row → Bool) → (list_any q below || list_any q above) ≡ true → list_any q (rows_replaced path block rows) ≡ true
    parted q h =
        list_any-append q below (block ++ above) ∙ ap (λ b. list_any q below || b) (list_any-append q block above) ∙ around (list_any q below) (list_any q block) (list_any q above) h

    -- a parent that isn't at or beneath the path is still there
    parent_kept : (p : List (List ℕ)) → ((a : List (List ℕ)) → is_child p a ≡ true → is_prefix path a ≡ false) → has_parent p rows ≡ true → has_parent p (rows_replaced path block rows) ≡ true
    parent_kept p apart h = parted (λ a. is_child p a.path && is_directory a) (any_parted (is_before path) (is_beyond path) (λ a. is_child p a.path && is_directory a)
        (λ a held. kept_where_apart a (apart a.path (both (is_child p a.path) (is_directory a) held).0)) rows h)

    in_block : (q : Row → Bool) → list_any q block ≡ true → list_any q (rows_replaced path block rows) ≡ true
    in_block q h = list_any-append q below (block ++ above) ∙ or_right (list_any q below) _ (list_any-append q block above ∙ or_left _ _ h)

    held_apart : (row : Row) → is_prefix path row.path ≡ false → (is_root row.path || has_parent row.path rows) ≡ true → (is_root row.path || has_parent row.path (rows_replaced path block rows)) ≡ true
    held_apart row apart h = by_root (is_root row.path) h
      where
        up : (a : List (List ℕ)) (b : Bool) → is_prefix path a ≡ b → is_child row.path a ≡ true → b ≡ false
        up a true s c = sym (child_starts row.path a path c s) ∙ apart
        up a false s c = refl

        by_root : (b : Bool) → (b || has_parent row.path rows) ≡ true → (b || has_parent row.path (rows_replaced path block rows)) ≡ true
        by_root true k = refl
        by_root false k = parent_kept row.path (λ a c. up a (is_prefix path a) refl c) k

    held_inside : has_parent path rows ≡ true → (row : Row) → (same_path path row.path || has_parent row.path block) ≡ true → (is_root row.path || has_parent row.path (rows_replaced path block rows)) ≡ true
    held_inside top row h = by_top (same_path path row.path) refl h
      where
        by_top : (b : Bool) → same_path path row.path ≡ b → (b || has_parent row.path block) ≡ true → (is_root row.path || has_parent row.path (rows_replaced path block rows)) ≡ true
        by_top true e k = or_right (is_root row.path) _ (ap (λ p. has_parent p (rows_replaced path block rows)) (sym (same_path_is path row.path e)) ∙ parent_kept path (λ a c. child_apart path a c) top)
        by_top false e k = or_right (is_root row.path) _ (in_block (λ a. is_child row.path a.path && is_directory a) k)

    pub replaced_held : have_parents rows rows ≡ true → has_parent path rows ≡ true → list_all (λ row. same_path path row.path || has_parent row.path block) block ≡ true → have_parents (rows_replaced path block rows) (rows_replaced path block rows) ≡ true
    replaced_held held top inner =
        let all : List Row = rows_replaced path block rows in
        let apart_held : (row : Row) → (not (is_prefix path row.path) && (is_root row.path || has_parent row.path rows)) ≡ true → (is_root row.path || has_parent row.path all) ≡ true =
        λ row h. let parts = both (not (is_prefix path row.path)) _ h in held_apart row (not_true _ parts.0) parts.1 in
        let side : (p : Row → Bool) → ((row : Row) → p row ≡ true → is_prefix path row.path ≡ false) → list_all (λ row. is_root row.path || has_parent row.path all) (filter p rows) ≡ true =
        λ p apart. all_imp (λ row. not (is_prefix path row.path) && (is_root row.path || has_parent row.path rows)) (λ row. is_root row.path || has_parent row.path all) apart_held (filter p rows)
        (all_both (λ row. not (is_prefix path row.path)) (λ row. is_root row.path || has_parent row.path rows) (filter p rows)
        (all_imp p (λ row. not (is_prefix path row.path)) (λ row h. ap not (apart row h)) (filter p rows) (all_filtered p rows))
        (all_kept p (λ row. is_root row.path || has_parent row.path rows) rows held)) in
        all_append (λ row. is_root row.path || has_parent row.path all) below (block ++ above) (side (is_before path) before_apart)
        (all_append (λ row. is_root row.path || has_parent row.path all) block above
        (all_imp (λ row. same_path path row.path || has_parent row.path block) (λ row. is_root row.path || has_parent row.path all) (held_inside top) block inner) (side (is_beyond path) beyond_apart))

no_parent_of_root : (rows : List Row) → has_parent [] rows ≡ false
no_parent_of_root [] = refl
no_parent_of_root (row ∷ rows) = no_parent_of_root rows

root_is : (p : List (List ℕ)) → is_root p ≡ true → p ≡ []
root_is [] h = refl
root_is (n ∷ ns) h = cc

pub replaced_rooted : (path : List (List ℕ)) (rows block : List Row) → is_rooted rows ≡ true → has_parent path rows ≡ true → is_rooted (rows_replaced path block rows) ≡ true
replaced_rooted path [] block h top = cc
replaced_rooted [] (root ∷ rows) block h top = absurd (differ (sym top ∙ no_parent_of_root (root ∷ rows)))
  where
    differ : true ≡ false → ⊥
    differ d = cc
replaced_rooted (n ∷ ns) (root ∷ rows) block h top =
    let first : is_before (n ∷ ns) root ≡ true = ap (λ p. is_gt (path_cmp (n ∷ ns) p)) (root_is root.path (both (is_root root.path) (is_directory root) h).0) in
    ap (λ b. is_rooted (cond b (root ∷ filter (is_before (n ∷ ns)) rows) (filter (is_before (n ∷ ns)) rows) ++ (block ++ filter (is_beyond (n ∷ ns)) (root ∷ rows)))) first ∙ h

pub replaced_suits : (path : List (List ℕ)) (rows block : List Row) → list_all suits_kind rows ≡ true → list_all suits_kind block ≡ true → list_all suits_kind (rows_replaced path block rows) ≡ true
replaced_suits path rows block h k =
    all_append suits_kind (filter (is_before path) rows) (block ++ filter (is_beyond path) rows) (all_kept (is_before path) suits_kind rows h)
    (all_append suits_kind block (filter (is_beyond path) rows) k (all_kept (is_beyond path) suits_kind rows h))

-- the tests of a namespace, and of a sub-tree, one by one
pub record Namespace (rows : List Row) : Type 0 where
  pub rooted : is_rooted rows ≡ true
  pub ascending : is_ascending rows ≡ true
  pub held : have_parents rows rows ≡ true
  pub suit : list_all suits_kind rows ≡ true

pub namespace_tests : (rows : List Row) → IsNamespace rows → Namespace rows
namespace_tests rows h =
    let last = both (is_rooted rows && is_ascending rows && have_parents rows rows) (list_all suits_kind rows) h in
    let third = both (is_rooted rows && is_ascending rows) (have_parents rows rows) last.0 in
    let first = both (is_rooted rows) (is_ascending rows) third.0 in
    record { rooted = first.0; ascending = first.1; held = third.1; suit = last.1 }

pub with_sub_tree_namespace : (rows block : List Row) → IsNamespace rows → fits rows block ≡ true → IsNamespace (with_sub_tree rows block)
with_sub_tree_namespace rows [] h f = h
with_sub_tree_namespace rows (top ∷ beneath) h f =
    let tests = namespace_tests rows h in
    let block : List Row = top ∷ beneath in
    let inside : Bool = list_all (λ row. is_prefix top.path row.path) block in
    let inner : Bool = list_all (λ row. same_path top.path row.path || has_parent row.path block) block in
    let fs = both (has_parent top.path rows) (is_sub_tree top.path block) f in
    let last = both (inside && is_ascending block && inner) (list_all suits_kind block) fs.1 in
    let third = both (inside && is_ascending block) inner last.0 in
    let first = both inside (is_ascending block) third.0 in
    and _ _ (and _ _ (and _ _ (replaced_rooted top.path rows block tests.rooted fs.0) (replaced_ascending top.path rows block tests.ascending first.1 first.0)) (replaced_held top.path rows block tests.held fs.0 third.1)) (replaced_suits top.path rows block tests.suit last.1)
