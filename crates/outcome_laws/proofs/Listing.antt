-- The names that a directory holds are those of what stands right beneath it.
use Rattle.std.proofs.Common.{◌≡◌, ℕ, Bool, true, false, ◌&&◌, ◌||◌, List, [], ◌∷◌, ◌++◌, map, refl, sym, ap, ◌∙◌, cond, is_some, is_eq, Ordering, Less, Equal, Greater}
use Rattle.std.specs.Prelude.{filter}
use Rattle.std.specs.List.{list_any}
use Rattle.std.specs.Ordering.{ordering_then}
use Rattle.hdfs_values.specs.Text.{same, text_cmp}
use Rattle.hdfs_values.proofs.Texts.{same_symm}
use Rattle.file_paths.specs.PathOrder.{path_cmp, same_path}
use Rattle.namespace_rows.specs.declared.row.Row.{Row}
use Rattle.namespace_rows.specs.First.{first}
use Rattle.namespace_rows.specs.Namespace.{is_child}
use Rattle.namespace_rows.specs.Rows.{row_at}
use Rattle.namespace_rows.specs.Changes.{children, last_name, child_names}

-- two paths are the same where their names are
pub by_names : (n m : List ℕ) (ns ms : List (List ℕ)) → same_path (n ∷ ns) (m ∷ ms) ≡ (same n m && same_path ns ms)
by_names n m ns ms = by (text_cmp n m)
  where
    by : (o : Ordering) → is_eq (ordering_then o (path_cmp ns ms)) ≡ (is_eq o && is_eq (path_cmp ns ms))
    by Less = refl
    by Equal = refl
    by Greater = refl

pub and_false : (b : Bool) → (b && false) ≡ false
and_false true = refl
and_false false = refl

and_true : (b : Bool) → (b && true) ≡ b
and_true true = refl
and_true false = refl

-- a child of the path with this name has the path of the name beneath it
child_is : (name : List ℕ) (path q : List (List ℕ)) → (is_child q path && same name (last_name q)) ≡ same_path (path ++ name ∷ []) q
child_is name [] [] = refl
child_is name [] (m ∷ []) = sym (by_names name m [] [] ∙ and_true (same name m))
child_is name [] (m ∷ o ∷ os) = sym (by_names name m [] (o ∷ os) ∙ and_false (same name m))
child_is name (p ∷ ps) [] = refl
child_is name (p ∷ ps) (m ∷ []) = ap (λ b. b && same name m) (none ps) ∙ sym (by_names p m (ps ++ name ∷ []) [] ∙ ap (λ b. same p m && b) (longer ps) ∙ and_false (same p m))
  where
    none : (above : List (List ℕ)) → is_child (m ∷ []) (p ∷ above) ≡ false
    none above = and_false (same m p)

    longer : (front : List (List ℕ)) → same_path (front ++ name ∷ []) [] ≡ false
    longer [] = refl
    longer (f ∷ fs) = refl
child_is name (p ∷ ps) (m ∷ o ∷ os) =
    joined (same m p) (is_child (o ∷ os) ps) (same name (last_name (o ∷ os)))
    ∙ ap (λ b. b && (is_child (o ∷ os) ps && same name (last_name (o ∷ os)))) (same_symm m p)
    ∙ ap (λ b. same p m && b) (child_is name ps (o ∷ os))
    ∙ sym (by_names p m (ps ++ name ∷ []) (o ∷ os))
  where
    joined : (a b c : Bool) → ((a && b) && c) ≡ (a && (b && c))
    joined true b c = refl
    joined false b c = refl

abbrev at : List (List ℕ) → List Row → List Row
at path rows = filter (λ row. same_path path row.path) rows

pub names_told : (name : List ℕ) (path : List (List ℕ)) (rows : List Row) → list_any (same name) (child_names path rows) ≡ is_some (row_at (path ++ name ∷ []) rows)
names_told name path [] = refl
names_told name path (r ∷ rs) = by (is_child r.path path) (same_path (path ++ name ∷ []) r.path) (child_is name path r.path) (names_told name path rs)
  where
    by : (b c : Bool) → (b && same name (last_name r.path)) ≡ c → list_any (same name) (child_names path rs) ≡ is_some (row_at (path ++ name ∷ []) rs)
        → list_any (same name) (map (λ row. last_name row.path) (cond b (r ∷ children path rs) (children path rs))) ≡ is_some (first (cond c (r ∷ at (path ++ name ∷ []) rs) (at (path ++ name ∷ []) rs)))
    by true true e rest = ap (λ b. b || list_any (same name) (child_names path rs)) e
    by true false e rest = ap (λ b. b || list_any (same name) (child_names path rs)) e ∙ rest
    by false true e rest = cc
    by false false e rest = rest
