-- How many rows tell a place, through each change of the rows.
use Rattle.std.proofs.Common.{◌≡◌, ◌≢◌, ℕ, ◌+◌, Bool, true, false, ◌&&◌, List, [], ◌∷◌, ◌++◌, map, length, drop, refl, ap, cond, if◌then◌else◌, Option, Some, arith}
use Rattle.std.specs.Prelude.{filter, not}
use Rattle.std.specs.List.{list_all}
use Rattle.file_paths.specs.Path.{is_prefix}
use Rattle.file_paths.specs.PathOrder.{same_path}
use Rattle.acl_entries.specs.Acl.{Acl}
use Rattle.namespace_rows.specs.declared.file_row.FileRow.{FileRow}
use Rattle.namespace_rows.specs.declared.row.Row.{Row}
use Rattle.namespace_rows.specs.declared.row.Change.{Change}
use Rattle.namespace_rows.specs.declared.row.Change.TheVariants as change
use Rattle.namespace_rows.specs.Rows.{is_missing, rows_replaced, with_sub_tree}
use Rattle.namespace_rows.specs.Namespace.{IsNamespace}
use Rattle.namespace_rows.specs.Changes.{rows_under, without, moved_row, with_rows_moved, with_change, row_rewritten}
use Rattle.flat_rows.specs.Outcome.{mode_of_new, file_of_new, new_row, new_rows, with_new}
use Rattle.flat_rows.proofs.Holders.{tally, tally_map, tally_split, tally_replaced, all_apart}
use Rattle.file_table.specs.Kept.{is_at_place, rows_at_place}

module _ (k : ℕ) where
  abbrev told : Row → Bool
  told row = is_at_place k row.file

  pub count_without : (path : List (List ℕ)) (rows : List Row) → length (rows_at_place k (without path rows)) + length (rows_at_place k (rows_under path rows)) ≡ length (rows_at_place k rows)
  count_without path rows = omega (arith, tally_split told path rows)

  pub count_replaced : (path : List (List ℕ)) (block rows : List Row)
      → length (rows_at_place k (rows_replaced path block rows)) + length (rows_at_place k (rows_under path rows)) ≡ length (rows_at_place k block) + length (rows_at_place k rows)
  count_replaced path block rows = omega (arith, tally_replaced told path block rows, tally_split told path rows)

  -- what stands at a path is moved to one at and beneath which nothing else stands
  pub count_moved : (from to : List (List ℕ)) (rows : List Row) → rows_under to (without from rows) ≡ [] → length (rows_at_place k (with_rows_moved from to rows)) ≡ length (rows_at_place k rows)
  count_moved from to rows free =
      let block : List Row = rows_under from rows in
      omega (arith, count_replaced to (map (moved_row from to) block) (without from rows), tally_map told (moved_row from to) (λ row. refl) block, ap (tally told) free, count_without from rows)

  -- a change that leaves the file as it was
  count_rewritten : (path : List (List ℕ)) (what : Change) → ((row : Row) → (with_change what row).file ≡ row.file) → (rows : List Row)
      → length (rows_at_place k (row_rewritten path what rows)) ≡ length (rows_at_place k rows)
  count_rewritten path what same rows = tally_map told (λ row. cond (same_path path row.path) (with_change what row) row) (λ row. by row (same_path path row.path)) rows
    where
      by : (row : Row) (b : Bool) → told (cond b (with_change what row) row) ≡ told row
      by row true = ap (is_at_place k) (same row)
      by row false = refl

  pub count_owner : (path : List (List ℕ)) (owner group : List ℕ) (rows : List Row) → length (rows_at_place k (row_rewritten path (change.Owner owner group) rows)) ≡ length (rows_at_place k rows)
  count_owner path owner group rows = count_rewritten path (change.Owner owner group) (λ row. refl) rows

  pub count_list : (path : List (List ℕ)) (acl : Acl) (rows : List Row) → length (rows_at_place k (row_rewritten path (change.List acl) rows)) ≡ length (rows_at_place k rows)
  count_list path acl rows = count_rewritten path (change.List acl) (λ row. refl) rows

-- nothing is beneath a path that is missing

none_pass : (q : Row → Bool) (rows : List Row) → list_all (λ row. not (q row)) rows ≡ true → filter q rows ≡ []
none_pass q [] h = refl
none_pass q (row ∷ rows) h = by (q row) h (none_pass q rows)
  where
    by : (b : Bool) → (not b && list_all (λ r. not (q r)) rows) ≡ true → (list_all (λ r. not (q r)) rows ≡ true → filter q rows ≡ []) → cond b (row ∷ filter q rows) (filter q rows) ≡ []
    by true h rest = cc
    by false h rest = rest h

pub none_under : (path : List (List ℕ)) (rows : List Row) → IsNamespace rows → is_missing path rows ≡ true → rows_under path rows ≡ []
none_under path rows namespace missing = none_pass (λ row. is_prefix path row.path) rows (all_apart path rows namespace missing)

-- what is made tells a place where its last row does

module _ (k : ℕ) (path : List (List ℕ)) (mode : ℕ) (file : Option FileRow) (owner : List ℕ) where
  abbrev made : ℕ
  made = if is_at_place k file then 1 else 0

  count_made : (above : Row) (name : List ℕ) (names : List (List ℕ)) → length (rows_at_place k (new_rows above owner mode file (name ∷ names))) ≡ made
  count_made above name [] = by (is_at_place k file)
    where
      by : (b : Bool) → length (cond b (new_row above owner mode file name ∷ []) []) ≡ (if b then 1 else 0)
      by true = refl
      by false = refl
  count_made above name (next ∷ names) = count_made (new_row above owner (mode_of_new mode (next ∷ names)) (file_of_new file (next ∷ names)) name) next names

  pub count_new : (above : Row) (rows : List Row)
      → ((name : List ℕ) (names : List (List ℕ)) → drop (length above.path) path ≡ name ∷ names → rows_under (above.path ++ name ∷ []) rows ≡ []) → drop (length above.path) path ≢ []
      → length (rows_at_place k (with_new path mode file owner (Some above) rows)) ≡ length (rows_at_place k rows) + (if is_at_place k file then 1 else 0)
  count_new above rows free some = by (drop (length above.path) path) refl
    where
      by : (left : List (List ℕ)) → drop (length above.path) path ≡ left → length (rows_at_place k (with_new path mode file owner (Some above) rows)) ≡ length (rows_at_place k rows) + made
      by [] e = absurd (some e)
      by (name ∷ names) e =
          let top : List (List ℕ) = above.path ++ name ∷ [] in
          let block : List Row = new_rows above owner mode file (name ∷ names) in
          let whole : with_new path mode file owner (Some above) rows ≡ rows_replaced top block rows = ap (λ left. with_sub_tree rows (new_rows above owner mode file left)) e in
          omega (arith, ap (tally (told k)) whole, count_replaced k top block rows, ap (tally (told k)) (free name names e), count_made above name names)
