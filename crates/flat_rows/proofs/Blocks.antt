-- What has a path, and its blocks, through a change of rows that keeps their paths.
use Rattle.std.proofs.Common.{◌≡◌, ℕ, Bool, true, false, List, [], ◌∷◌, map, Option, Some, None, refl, ap, ◌∙◌, cond}
use Rattle.std.specs.Prelude.{filter}
use Rattle.std.specs.Option.{option_map}
use Rattle.file_paths.specs.PathOrder.{same_path}
use Rattle.namespace_rows.specs.First.{first}
use Rattle.namespace_rows.specs.declared.file_row.FileRow.{FileRow}
use Rattle.namespace_rows.specs.declared.row.Row.{Row}
use Rattle.namespace_rows.specs.declared.row.Change.TheVariants as change
use Rattle.namespace_rows.specs.Rows.{row_at}
use Rattle.namespace_rows.specs.Files.{ids_in, with_file_replication}
use Rattle.namespace_rows.specs.Changes.{with_change, row_rewritten}
use Rattle.flat_rows.specs.BlockOutcome.{ids_at}

pub row_at_map : (f : Row → Row) → ((row : Row) → (f row).path ≡ row.path) → (path : List (List ℕ)) (rows : List Row) → row_at path (map f rows) ≡ option_map f (row_at path rows)
row_at_map f keeps path [] = refl
row_at_map f keeps path (row ∷ rows) =
    ap (λ p. first (cond (same_path path p) (f row ∷ filter (λ r. same_path path r.path) (map f rows)) (filter (λ r. same_path path r.path) (map f rows)))) (keeps row)
    ∙ by (same_path path row.path) (row_at_map f keeps path rows)
  where
    by : (b : Bool) → row_at path (map f rows) ≡ option_map f (row_at path rows)
        → first (cond b (f row ∷ filter (λ r. same_path path r.path) (map f rows)) (filter (λ r. same_path path r.path) (map f rows))) ≡ option_map f (first (cond b (row ∷ filter (λ r. same_path path r.path) rows) (filter (λ r. same_path path r.path) rows)))
    by true rest = refl
    by false rest = rest

ids_of_file : (replication : ℕ) (file : Option FileRow) → ids_in (option_map (with_file_replication replication) file) ≡ ids_in file
ids_of_file replication None = refl
ids_of_file replication (Some file) = refl

-- another replication leaves the blocks of a file
pub ids_stay : (path : List (List ℕ)) (replication : ℕ) (rows : List Row) → ids_at (row_at path (row_rewritten path (change.Replication replication) rows)) ≡ ids_at (row_at path rows)
ids_stay path replication rows = ap ids_at (row_at_map (λ row. cond (same_path path row.path) (with_change (change.Replication replication) row) row) (λ row. paths row (same_path path row.path)) path rows) ∙ found (row_at path rows)
  where
    paths : (row : Row) (b : Bool) → (cond b (with_change (change.Replication replication) row) row).path ≡ row.path
    paths row true = refl
    paths row false = refl

    ids : (row : Row) (b : Bool) → ids_in (cond b (with_change (change.Replication replication) row) row).file ≡ ids_in row.file
    ids row true = ids_of_file replication row.file
    ids row false = refl

    found : (at : Option Row) → ids_at (option_map (λ row. cond (same_path path row.path) (with_change (change.Replication replication) row) row) at) ≡ ids_at at
    found None = refl
    found (Some row) = ids row (same_path path row.path)
