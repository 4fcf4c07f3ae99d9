-- Where nothing has a path, nothing is beneath it.
use Rattle.std.proofs.Common.{◌≡◌, ℕ, zero, suc, Bool, true, false, ◌&&◌, ◌||◌, List, [], ◌∷◌, length, ◌≤◌, arith, refl, sym, ap, ◌∙◌, subst, cond}
use Rattle.std.specs.Prelude.{filter, not}
use Rattle.std.specs.List.{list_all, list_any}
use Rattle.std.proofs.lemmas.Bool.{false≢true}
use Rattle.hdfs_values.specs.Text.{same}
use Rattle.file_paths.specs.Path.{is_prefix}
use Rattle.file_paths.specs.PathOrder.{same_path}
use Rattle.namespace_rows.specs.declared.row.Row.{Row}
use Rattle.namespace_rows.specs.First.{first}
use Rattle.namespace_rows.specs.Rows.{is_directory, is_missing, is_none}
use Rattle.namespace_rows.specs.Namespace.{IsNamespace, is_child, has_parent, is_root, have_parents}
use Rattle.namespace_rows.proofs.Tests.{both, or_left, or_right}
use Rattle.namespace_rows.proofs.PathOrders.{same_path_is}
use Rattle.namespace_rows.proofs.Namespaces.{namespace_tests}
use Rattle.flat_rows.proofs.Changes.{same_self}
use Rattle.flat_rows.proofs.Moves.{parent_inside}

-- a row that passes, among the rows
pub record Found (p : Row → Bool) (rows : List Row) : Type 0 where
  pub row : Row
  pub passes : p row ≡ true
  pub among : (q : Row → Bool) → q row ≡ true → list_any q rows ≡ true
  pub shared : (q : Row → Bool) → list_all q rows ≡ true → q row ≡ true

pub found : (p : Row → Bool) (rows : List Row) → list_any p rows ≡ true → Found p rows
found p [] h = cc
found p (r ∷ rs) h = by (p r) refl h (found p rs)
  where
    by : (b : Bool) → p r ≡ b → (b || list_any p rs) ≡ true → (list_any p rs ≡ true → Found p rs) → Found p (r ∷ rs)
    by true e k rest = record { row = r; passes = e; among = λ q t. or_left _ _ t; shared = λ q t. (both (q r) (list_all q rs) t).0 }
    by false e k rest =
        let one = rest k in
        record { row = one.row; passes = one.passes; among = λ q t. or_right (q r) _ (one.among q t); shared = λ q t. one.shared q (both (q r) (list_all q rs) t).1 }

abbrev at : List (List ℕ) → Row → Bool
at path row = same_path path row.path

pub missing_any : (path : List (List ℕ)) (rows : List Row) → is_missing path rows ≡ not (list_any (at path) rows)
missing_any path [] = refl
missing_any path (r ∷ rs) = by (at path r) (missing_any path rs)
  where
    by : (b : Bool) → is_missing path rs ≡ not (list_any (at path) rs) → is_none (first (cond b (r ∷ filter (at path) rs) (filter (at path) rs))) ≡ not (b || list_any (at path) rs)
    by true e = refl
    by false e = e

pub child_shorter : (q a : List (List ℕ)) → is_child q a ≡ true → suc (length a) ≤ length q
child_shorter [] a c = cc
child_shorter (n ∷ []) [] c = omega arith
child_shorter (n ∷ m ∷ ms) [] c = cc
child_shorter (n ∷ []) (o ∷ os) c = absurd (false≢true (both (same n o) false c).1)
child_shorter (n ∷ m ∷ ms) (o ∷ os) c = omega (arith, child_shorter (m ∷ ms) os (both _ _ c).1)

module _ (rows : List Row) (held : have_parents rows rows ≡ true) (to : List (List ℕ)) where
  climb : (k : ℕ) (q : List (List ℕ)) → length q ≤ k → list_any (at q) rows ≡ true → is_prefix to q ≡ true → list_any (at to) rows ≡ true
  climb k [] le there inside = by to inside
    where
      by : (p : List (List ℕ)) → is_prefix p [] ≡ true → list_any (at p) rows ≡ true
      by [] h = there
      by (n ∷ ns) h = cc
  climb zero (n ∷ ns) le there inside = absurd (omega (arith, le))
  climb (suc k) (n ∷ ns) le there inside = by (same_path to (n ∷ ns)) refl (λ a less up s. climb k a less up s)
    where
      by : (b : Bool) → same_path to (n ∷ ns) ≡ b → ((a : List (List ℕ)) → length a ≤ k → list_any (at a) rows ≡ true → is_prefix to a ≡ true → list_any (at to) rows ≡ true) → list_any (at to) rows ≡ true
      by true e rest = subst (λ p. list_any (at p) rows ≡ true) (sym (same_path_is to (n ∷ ns) e)) there
      by false e rest =
          let one = found (at (n ∷ ns)) rows there in
          let path : (n ∷ ns) ≡ one.row.path = same_path_is (n ∷ ns) one.row.path one.passes in
          let parent : has_parent (n ∷ ns) rows ≡ true = ap (λ p. is_root p || has_parent p rows) path ∙ one.shared (λ row. is_root row.path || has_parent row.path rows) held in
          let above = found (λ a. is_child (n ∷ ns) a.path && is_directory a) rows parent in
          let child : is_child (n ∷ ns) above.row.path ≡ true = (both (is_child (n ∷ ns) above.row.path) (is_directory above.row) above.passes).0 in
          rest above.row.path (omega (arith, le, child_shorter (n ∷ ns) above.row.path child)) (above.among (at above.row.path) (same_self above.row.path)) (parent_inside to (n ∷ ns) above.row.path inside e child)

-- a path that is missing is above none that is there
pub missing_above : (rows : List Row) (from to : List (List ℕ)) → IsNamespace rows → is_missing from rows ≡ false → is_missing to rows ≡ true → is_prefix to from ≡ false
missing_above rows from to h there missing = by (is_prefix to from) refl
  where
    unsaid : (b : Bool) → not b ≡ false → b ≡ true
    unsaid true e = refl
    unsaid false e = cc

    differ : true ≡ false → ⊥
    differ e = cc

    by : (b : Bool) → is_prefix to from ≡ b → b ≡ false
    by false e = refl
    by true e =
        let up : list_any (at to) rows ≡ true =
        climb rows (namespace_tests rows h).held to (length from) from (omega arith) (unsaid (list_any (at from) rows) (sym (missing_any from rows) ∙ there)) e in
        absurd (differ (sym missing ∙ missing_any to rows ∙ ap not up))
