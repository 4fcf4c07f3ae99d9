-- How many rows there are at and beneath a path.
use Rattle.std.proofs.Common.{◌≡◌, ℕ, suc, ◌+◌, Bool, true, false, not, List, [], ◌∷◌, length, refl, cond, arith}
use Rattle.std.specs.Prelude.{filter}
use Rattle.file_paths.specs.Path.{is_prefix}
use Rattle.namespace_rows.specs.declared.row.Row.{Row}
use Rattle.namespace_rows.specs.Rows.{is_directory}
use Rattle.namespace_rows.specs.Changes.{rows_under, without}

-- what passes a test and what doesn't are all
parted : (p : Row → Bool) (rows : List Row) → length (filter p rows) + length (filter (λ row. not (p row)) rows) ≡ length rows
parted p [] = refl
parted p (r ∷ rs) = by (p r) (parted p rs)
  where
    by : (b : Bool) → length (filter p rs) + length (filter (λ row. not (p row)) rs) ≡ length rs
        → length (cond b (r ∷ filter p rs) (filter p rs)) + length (cond (not b) (r ∷ filter (λ row. not (p row)) rs) (filter (λ row. not (p row)) rs)) ≡ suc (length rs)
    by true rest = omega (arith, rest)
    by false rest = omega (arith, rest)

pub fewer : (path : List (List ℕ)) (rows : List Row) → length rows ≡ length (without path rows) + length (rows_under path rows)
fewer path rows = omega (arith, parted (λ row. is_prefix path row.path) rows)

pub kinds : (rows : List Row) → length (filter is_directory rows) + length (filter (λ row. not (is_directory row)) rows) ≡ length rows
kinds rows = parted is_directory rows
