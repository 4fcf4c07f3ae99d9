-- The last component above a path that stands.
use Rattle.std.proofs.Common.{◌≡◌, ℕ, Bool, true, false, ◌||◌, List, [], ◌∷◌, Option, Some, None, refl, sym, ap, ◌∙◌, subst}
use Rattle.std.specs.Prelude.{filter}
use Rattle.std.specs.List.{last_or}
use Rattle.std.specs.Ordering.{is_gt, is_lt, ordering_reverse}
use Rattle.file_paths.specs.Path.{is_prefix, is_beneath}
use Rattle.file_paths.specs.PathOrder.{path_cmp, same_path, paths_total}
use Rattle.namespace_rows.specs.declared.row.Row.{Row}
use Rattle.namespace_rows.specs.Namespace.{IsNamespace, is_root}
use Rattle.namespace_rows.specs.Rows.{row_at, ancestor}
use Rattle.namespace_rows.proofs.Namespaces.{namespace_tests, ascending_filter}
use Rattle.namespace_rows.proofs.PathOrders.{less_is, starts_upto, same_path_is}
use Rattle.flat_rows.proofs.Making.{all_upto, upto, some_ancestor}
use Rattle.flat_rows.proofs.NewDirectories.{ancestor_above}
use Rattle.permission_laws.proofs.Deciding.{of_standing}
use Rattle.permission_laws.proofs.Stops.{Each, stands, each_stands, each_filtered}

differ : true ≡ false → ⊥
differ e = cc

one : (x y : Row) → Some x ≡ Some y → x ≡ y
one x y e = cc

last_each : (P : Row → Type 0) (seen : Option Row) (rows : List Row) (row : Row) → ((r : Row) → seen ≡ Some r → P r) → Each P rows → last_or seen rows ≡ Some row → P row
last_each P seen [] row s e h = s row h
last_each P seen (r ∷ rows) row s e h = last_each P (Some r) rows row (λ x k. subst P (one r x k) e.0) e.1 h

no_row : (row : Row) → None ≡ Some row → ⊥
no_row row e = cc

below_root : (path above : List (List ℕ)) → is_beneath path above ≡ true → is_root path ≡ false
below_root [] above h = cc
below_root (n ∷ ns) above h = refl

module _ (rows : List Row) (namespace : IsNamespace rows) (path : List (List ℕ)) where
  abbrev above_it : Row → Bool
  above_it row = is_beneath path row.path

  ancestor_stands : (row : Row) → ancestor path rows ≡ Some row → row_at row.path rows ≡ Some row
  ancestor_stands row e =
      last_each (stands rows) None (filter above_it rows) row (λ r k. absurd (no_row r k)) (each_filtered (stands rows) above_it rows (each_stands rows (namespace_tests rows namespace).ascending)) e

  pub last_is_ancestor : (above : Row) → row_at above.path rows ≡ Some above → is_beneath path above.path ≡ true
      → ((other : Row) → row_at other.path rows ≡ Some other → is_beneath path other.path ≡ true → is_prefix other.path above.path ≡ true) → ancestor path rows ≡ Some above
  last_is_ancestor above there up last =
      let some = some_ancestor path rows namespace (below_root path above.path up) in
      is_it some.0 some.1 (ancestor_stands some.0 some.1)
    where
      is_it : (found : Row) → ancestor path rows ≡ Some found → row_at found.path rows ≡ Some found → ancestor path rows ≡ Some above
      is_it found e at =
          let front = last found at (ancestor_above path rows found e) in
          let low = of_standing (upto found) above_it above.path rows above (all_upto found (filter above_it rows) (ascending_filter above_it rows (namespace_tests rows namespace).ascending) e) there up in
          by (is_lt (path_cmp above.path found.path)) refl (same_path above.path found.path) refl low front
        where
          by : (b : Bool) → is_lt (path_cmp above.path found.path) ≡ b → (c : Bool) → same_path above.path found.path ≡ c → (b || c) ≡ true → is_prefix found.path above.path ≡ true → ancestor path rows ≡ Some above
          by true g c k h front =
              absurd (differ (sym (ap is_gt (paths_total.antisymm found.path above.path ∙ ap ordering_reverse (less_is _ g))) ∙ starts_upto found.path above.path front))
          by false g true k h front = e ∙ sym at ∙ ap (λ p. row_at p rows) (sym (same_path_is above.path found.path k)) ∙ there
          by false g false k h front = cc
