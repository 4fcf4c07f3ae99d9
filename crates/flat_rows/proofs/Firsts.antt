-- The first row that a test finds passes it, and any test that all rows pass.
use Rattle.std.proofs.Common.{◌≡◌, Bool, true, false, List, [], ◌∷◌, cond, Option, Some, None, refl, subst}
use Rattle.std.specs.Prelude.{filter}
use Rattle.std.specs.List.{list_all}
use Rattle.namespace_rows.specs.declared.row.Row.{Row}
use Rattle.namespace_rows.specs.First.{first}
use Rattle.namespace_rows.proofs.Tests.{both}

abbrev passes : (Row → Bool) → Option Row → Bool
passes q None = true
passes q (Some row) = q row

pub first_passes : (p q : Row → Bool) (rows : List Row) (row : Row) → list_all q rows ≡ true → first (filter p rows) ≡ Some row → q row ≡ true
first_passes p q [] row h is = cc
first_passes p q (other ∷ rows) row h is = by (p other) is (first_passes p q rows row)
  where
    parts : (q other ≡ true) × (list_all q rows ≡ true)
    parts = both (q other) (list_all q rows) h

    by : (b : Bool) → first (cond b (other ∷ filter p rows) (filter p rows)) ≡ Some row → (list_all q rows ≡ true → first (filter p rows) ≡ Some row → q row ≡ true) → q row ≡ true
    by true k others = subst (λ o. passes q o ≡ true) k parts.0
    by false k others = others parts.1 k

pub first_found : (p : Row → Bool) (rows : List Row) (row : Row) → first (filter p rows) ≡ Some row → p row ≡ true
first_found p [] row is = cc
first_found p (other ∷ rows) row is = by (p other) refl is (first_found p rows row)
  where
    by : (b : Bool) → p other ≡ b → first (cond b (other ∷ filter p rows) (filter p rows)) ≡ Some row → (first (filter p rows) ≡ Some row → p row ≡ true) → p row ≡ true
    by true e k others = subst (λ o. passes p o ≡ true) k e
    by false e k others = others k
