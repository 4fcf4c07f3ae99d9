-- Whose the rows are that appear, and what group they have.
use Rattle.std.proofs.Common.{◌≡◌, ℕ, Bool, true, false, ◌||◌, not, List, [], ◌∷◌, ◌++◌, Option, Some, None, length, drop, refl, sym, ap, ◌∙◌, is_some, cond}
use Rattle.std.specs.Prelude.{filter}
use Rattle.std.specs.List.{list_all}
use Rattle.std.specs.Option.{option_or}
use Rattle.hdfs_values.specs.Text.{same}
use Rattle.hdfs_values.proofs.Texts.{same_self}
use Rattle.file_paths.specs.Path.{is_prefix}
use Rattle.file_paths.specs.PathOrder.{same_path}
use Rattle.hdfs_types.specs.declared.op.Op.{Op}
use Rattle.hdfs_types.specs.declared.op.Op.TheVariants as op
use Rattle.namespace_rows.specs.declared.file_row.FileRow.{FileRow}
use Rattle.namespace_rows.specs.declared.row.Row.{Row}
use Rattle.namespace_rows.specs.Files.{new_file}
use Rattle.namespace_rows.specs.First.{first}
use Rattle.namespace_rows.specs.Rows.{row_at, ancestor, is_before, is_beyond, rows_replaced, with_sub_tree}
use Rattle.namespace_rows.specs.Changes.{without}
use Rattle.namespace_rows.proofs.Tests.{and}
use Rattle.flat_rows.specs.Facts.{Facts}
use Rattle.flat_rows.specs.Outcome.{rows_after, with_new, made_at, new_row, new_rows, mode_of_new, file_of_new}
use Rattle.flat_rows.proofs.Firsts.{first_passes}
use Rattle.permission_laws.specs.Attempt.{is_about_files, is_about_lists, is_about_owners, made_path}
use Rattle.permission_laws.proofs.RowsAt.{at_append}
use Rattle.permission_laws.proofs.Parts.{all_alike}
use Rattle.outcome_laws.specs.Laws.{is_rename}

-- ---- new rows

module _ (owner : List ℕ) (mode : ℕ) (file : Option FileRow) where
  pub owners : (above : Row) (names : List (List ℕ)) → list_all (λ r. same owner r.owner) (new_rows above owner mode file names) ≡ true
  owners above [] = refl
  owners above (name ∷ names) = and _ _ (same_self owner) (owners (new_row above owner (mode_of_new mode names) (file_of_new file names) name) names)

  pub groups : (above : Row) (names : List (List ℕ)) → list_all (λ r. same above.group r.group) (new_rows above owner mode file names) ≡ true
  groups above [] = refl
  groups above (name ∷ names) = and _ _ (same_self above.group) (groups (new_row above owner (mode_of_new mode names) (file_of_new file names) name) names)

pub same_path_of : {p q : List (List ℕ)} → Some p ≡ Some q → p ≡ q
same_path_of e = cc

pub same_row_of : {r s : Row} → Some r ≡ Some s → r ≡ s
same_row_of e = cc

-- ---- where nothing stood

abbrev at : List (List ℕ) → List Row → List Row
at path rows = filter (λ row. same_path path row.path) rows

free_of : (path : List (List ℕ)) (q : Row → Bool) (rows : List Row) → row_at path rows ≡ None → row_at path (filter q rows) ≡ None
free_of path q [] free = refl
free_of path q (r ∷ rs) free = by (q r) (same_path path r.path) refl free (free_of path q rs)
  where
    by : (b c : Bool) → same_path path r.path ≡ c → first (cond c (r ∷ at path rs) (at path rs)) ≡ None → (row_at path rs ≡ None → row_at path (filter q rs) ≡ None) → row_at path (cond b (r ∷ filter q rs) (filter q rs)) ≡ None
    by true true e k rest = cc
    by false true e k rest = cc
    by true false e k rest = ap (λ c. first (cond c (r ∷ at path (filter q rs)) (at path (filter q rs)))) e ∙ rest k
    by false false e k rest = rest k

module _ (path : List (List ℕ)) (rows : List Row) (free : row_at path rows ≡ None) where
  -- what appears where rows are put in is one of them
  put_in : (top : List (List ℕ)) (block : List Row) → row_at path (rows_replaced top block rows) ≡ row_at path block
  put_in top block =
      at_append path (filter (is_before top) rows) (block ++ filter (is_beyond top) rows)
      ∙ ap (λ o. option_or o (row_at path (block ++ filter (is_beyond top) rows))) (free_of path (is_before top) rows free)
      ∙ at_append path block (filter (is_beyond top) rows)
      ∙ ap (option_or (row_at path block)) (free_of path (is_beyond top) rows free)
      ∙ last (row_at path block)
    where
      last : (o : Option Row) → option_or o None ≡ o
      last None = refl
      last (Some row) = refl

  pub never : (row : Row) → row_at path rows ≡ Some row → ⊥
  never row at = cc

  module _ (facts : Facts) (caller : List ℕ) (test : Row → Bool) (row : Row) where
    new_passes : (above : Row) (mode : ℕ) (file : Option FileRow) (names : List (List ℕ)) → list_all test (new_rows above caller mode file names) ≡ true
        → row_at path (with_sub_tree rows (new_rows above caller mode file names)) ≡ Some row → test row ≡ true
    new_passes above mode file [] all at = absurd (never row at)
    new_passes above mode file (name ∷ names) all at =
        first_passes (λ r. same_path path r.path) test (new_rows above caller mode file (name ∷ names)) row all
        (sym (put_in (above.path ++ name ∷ []) (new_rows above caller mode file (name ∷ names))) ∙ at)

    -- all that is made beneath the last component above the path that is made passes the test
    abbrev pub Makes : Op → Type 0
    Makes what = (top : List (List ℕ)) (above : Row) (mode : ℕ) (file : Option FileRow) (names : List (List ℕ)) → names ≡ drop (length above.path) top
        → made_path what ≡ Some top → ancestor top rows ≡ Some above → list_all test (new_rows above caller mode file names) ≡ true

    made : (what : Op) (top : List (List ℕ)) (mode : ℕ) (file : Option FileRow) → made_path what ≡ Some top → Makes what → row_at path (with_new top mode file caller (ancestor top rows) rows) ≡ Some row → test row ≡ true
    made what top mode file is makes at = by (ancestor top rows) refl at
      where
        by : (o : Option Row) → ancestor top rows ≡ o → row_at path (with_new top mode file caller o rows) ≡ Some row → test row ≡ true
        by None e k = absurd (never row k)
        by (Some above) e k = new_passes above mode file (drop (length above.path) top) (makes top above mode file (drop (length above.path) top) refl is e) k

    stays : (what : Op) → (is_about_files what || (is_about_lists what || is_about_owners what)) ≡ true → row_at path (rows_after facts what caller rows) ≡ Some row → test row ≡ true
    stays what about at = absurd (differ (ap is_some (sym at) ∙ all_alike rows path facts caller what about ∙ ap is_some free))
      where
        differ : true ≡ false → ⊥
        differ e = cc

    pub appears : (what : Op) → is_rename what ≡ false → Makes what → row_at path (rows_after facts what caller rows) ≡ Some row → test row ≡ true
    appears (op.Mkdirs top mode) other makes at = by (row_at top rows) at
      where
        by : (o : Option Row) → row_at path (made_at top mode caller o rows) ≡ Some row → test row ≡ true
        by None k = made (op.Mkdirs top mode) top mode None refl makes k
        by (Some there) k = absurd (never row k)
    appears (op.Create top mode replication over) other makes at = made (op.Create top mode replication over) top mode (Some (new_file replication caller)) refl makes at
    appears (op.Delete top recursive) other makes at = let none : row_at path (without top rows) ≡ None = free_of path (λ r. not (is_prefix top r.path)) rows free in cc
    appears (op.Rename from to) other makes at = cc
    appears (op.SetMode top mode) other makes at = stays (op.SetMode top mode) refl at
    appears (op.SetOwner top owner group) other makes at = stays (op.SetOwner top owner group) refl at
    appears (op.SetAcl top change) other makes at = stays (op.SetAcl top change) refl at
    appears (op.Append top) other makes at = stays (op.Append top) refl at
    appears (op.AddBlock top last) other makes at = stays (op.AddBlock top last) refl at
    appears (op.Complete top last) other makes at = stays (op.Complete top last) refl at
    appears (op.SetReplication top replication) other makes at = stays (op.SetReplication top replication) refl at
    appears op.Tick other makes at = stays op.Tick refl at
    appears (op.CommitRecovery recovered) other makes at = stays (op.CommitRecovery recovered) refl at
    appears _ other makes at = absurd (never row at)
