-- How many bytes files hold, at and beneath a path and elsewhere.
use Rattle.std.proofs.Common.{◌≡◌, ℕ, ◌+◌, Bool, true, false, not, List, [], ◌∷◌, Option, Some, None, refl, ap, ◌∙◌, cond, arith}
use Rattle.std.specs.Prelude.{filter}
use Rattle.std.specs.Option.{option_map_or}
use Rattle.std.proofs.lemmas.List.Sums.{sum_by-cons}
use Rattle.file_paths.specs.Path.{is_prefix}
use Rattle.file_blocks.specs.Blocks.{length_of}
use Rattle.namespace_rows.specs.declared.file_row.FileRow.{FileRow}
use Rattle.namespace_rows.specs.declared.row.Row.{Row}
use Rattle.namespace_rows.specs.Changes.{rows_under, without}
use Rattle.flat_rows.specs.FileOutcome.{file_bytes}
use Rattle.flat_rows.specs.Outcome.{bytes_in}
use Rattle.outcome_laws.specs.Laws.{bytes_held}

abbrev bytes_of : Row → ℕ
bytes_of row = option_map_or (λ (file : FileRow). length_of file.blocks) row.file 0

same_bytes : (file : Option FileRow) → option_map_or (λ (own : FileRow). length_of own.blocks) file 0 ≡ file_bytes file
same_bytes None = refl
same_bytes (Some file) = refl

held : (rows : List Row) → bytes_held rows ≡ bytes_in rows
held [] = refl
held (row ∷ rows) = sum_by-cons bytes_of row rows ∙ ap (λ n. n + bytes_held rows) (same_bytes row.file) ∙ ap (λ n. file_bytes row.file + n) (held rows)

-- those that pass a test and those that don't hold what all hold
parted : (p : Row → Bool) (rows : List Row) → bytes_in (filter p rows) + bytes_in (filter (λ row. not (p row)) rows) ≡ bytes_in rows
parted p [] = refl
parted p (r ∷ rs) = by (p r) (parted p rs)
  where
    by : (b : Bool) → bytes_in (filter p rs) + bytes_in (filter (λ row. not (p row)) rs) ≡ bytes_in rs
        → bytes_in (cond b (r ∷ filter p rs) (filter p rs)) + bytes_in (cond (not b) (r ∷ filter (λ row. not (p row)) rs) (filter (λ row. not (p row)) rs)) ≡ file_bytes r.file + bytes_in rs
    by true rest = omega (arith, rest)
    by false rest = omega (arith, rest)

pub bytes_gone : (path : List (List ℕ)) (rows : List Row) → bytes_held rows ≡ bytes_held (without path rows) + bytes_in (rows_under path rows)
bytes_gone path rows = omega (arith, parted (λ row. is_prefix path row.path) rows, held rows, held (without path rows))
