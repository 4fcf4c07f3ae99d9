-- How many files a client has open, behind a change of the rows.
use Rattle.std.proofs.Common.{◌≡◌, ℕ, ◌+◌, Bool, true, false, ◌&&◌, ◌||◌, List, [], ◌∷◌, ◌++◌, map, filter, length, drop, not, Option, Some, None, nat_lt, arith, refl, sym, ap, ◌∙◌, subst, cond}
use Rattle.std.proofs.lemmas.List.{take-append-drop}
use Rattle.std.specs.Option.{option_map, option_to_list}
use Rattle.std.proofs.lemmas.Bool.{lt-ltb}
use Rattle.std.specs.Ordering.{is_lt, is_eq}
use Rattle.hdfs_values.specs.Text.{same}
use Rattle.file_paths.specs.Path.{is_prefix}
use Rattle.file_paths.specs.PathOrder.{path_cmp, same_path}
use Rattle.file_states.specs.declared.state.FileState.{FileState}
use Rattle.namespace_rows.specs.declared.file_row.FileRow.{FileRow}
use Rattle.namespace_rows.specs.declared.row.Row.{Row}
use Rattle.namespace_rows.specs.declared.row.Change.{Change}
use Rattle.namespace_rows.specs.declared.row.Change.TheVariants as change
use Rattle.namespace_rows.specs.First.{first}
use Rattle.namespace_rows.specs.Rows.{is_missing, row_at, ancestor, rows_replaced}
use Rattle.namespace_rows.specs.Namespace.{IsNamespace, is_ascending, is_before_all}
use Rattle.namespace_rows.specs.Files.{holder_of, holder_of_file, is_client, is_open_by, has_open_file, holders, with_state, with_file_replication}
use Rattle.flat_rows.specs.Outcome.{new_rows, new_row, mode_of_new, with_new}
use Rattle.namespace_rows.specs.Changes.{rows_under, without, moved_row, with_rows_moved, with_change, row_rewritten}
use Rattle.namespace_rows.proofs.Tests.{both, all_kept}
use Rattle.namespace_rows.proofs.PathOrders.{same_path_is, less_is}
use Rattle.flat_rows.proofs.NewDirectories.{beneath_parts, ancestor_above}
use Rattle.history.proofs.Counting.{count, bit, count_head, count_map, count_kept, count_replaced, count_without}
use Rattle.history.proofs.Apart.{missing_apart, none_under, under_top}

-- ---- one row given anew

one_row : (x y : Row) → Some x ≡ Some y → x ≡ y
one_row x y e = cc

module _ (p : Row → Bool) (path : List (List ℕ)) (change : Change) where
  abbrev anew : Row → Row
  anew row = cond (same_path path row.path) (with_change change row) row

  -- behind the row of the path there is none other of it
  pub behind : (row : Row) (rows : List Row) → same_path path row.path ≡ true → is_before_all row rows ≡ true → map anew rows ≡ rows
  behind row [] at low = refl
  behind row (other ∷ rows) at low =
      let lows = both (is_lt (path_cmp row.path other.path)) (is_before_all row rows) low in
      let apart : same_path path other.path ≡ false = ap (λ t. same_path t other.path) (same_path_is path row.path at) ∙ ap is_eq (less_is _ lows.0) in
      ap (λ b. cond b (with_change change other) other ∷ map anew rows) apart ∙ ap (λ rest. other ∷ rest) (behind row rows at lows.1)

  pub count_rewritten : (rows : List Row) (row : Row) → is_ascending rows ≡ true → row_at path rows ≡ Some row → count p (row_rewritten path change rows) + bit (p row) ≡ count p rows + bit (p (with_change change row))
  count_rewritten [] row up at = cc
  count_rewritten (r ∷ rows) row up at =
      let ups = both (is_before_all r rows) (is_ascending rows) up in
      by (same_path path r.path) refl at (λ e. behind r rows e ups.0) (λ k. count_rewritten rows row ups.1 k)
    where
      here : (a b c d : ℕ) (l m : ℕ) → l ≡ a + c → m ≡ b + c → l + b ≡ m + a
      here a b c d l m e f = omega (arith, e, f)

      later : (a b c d e l m : ℕ) → l ≡ a + c → m ≡ a + d → c + b ≡ d + e → l + b ≡ m + e
      later a b c d e l m f g h = omega (arith, f, g, h)

      by : (b : Bool) → same_path path r.path ≡ b → first (cond b (r ∷ filter (λ other. same_path path other.path) rows) (filter (λ other. same_path path other.path) rows)) ≡ Some row
          → (same_path path r.path ≡ true → map anew rows ≡ rows) → (row_at path rows ≡ Some row → count p (row_rewritten path change rows) + bit (p row) ≡ count p rows + bit (p (with_change change row)))
          → count p (cond b (with_change change r) r ∷ map anew rows) + bit (p row) ≡ count p (r ∷ rows) + bit (p (with_change change row))
      by true e at low rest =
          subst (λ x. count p (with_change change r ∷ map anew rows) + bit (p x) ≡ count p (r ∷ rows) + bit (p (with_change change x))) (one_row r row at)
          (here (bit (p (with_change change r))) (bit (p r)) (count p rows) 0 _ _ (ap (λ some. count p (with_change change r ∷ some)) (low e) ∙ count_head p (with_change change r) rows) (count_head p r rows))
      by false e at low rest = later (bit (p r)) (bit (p row)) (count p (map anew rows)) (count p rows) (bit (p (with_change change row))) _ _ (count_head p r (map anew rows)) (count_head p r rows) (rest at)

  -- a change that no row shows
  pub count_unchanged : ((row : Row) → p (with_change change row) ≡ p row) → (rows : List Row) → count p (row_rewritten path change rows) ≡ count p rows
  count_unchanged h rows = count_map p anew (λ row. by row (same_path path row.path)) rows
    where
      by : (row : Row) (b : Bool) → p (cond b (with_change change row) row) ≡ p row
      by row true = h row
      by row false = refl

-- ---- a client

module _ (client : List ℕ) where
  abbrev pub opens : Row → Bool
  opens = is_open_by client

  -- what a change of a file's holder does to a row
  pub with_holder : (state : FileState) (row : Row) (file : FileRow) → row.file ≡ Some file → opens (with_change (change.State state) row) ≡ is_client client (holder_of state)
  with_holder state row file is = ap (λ o. is_client client (holder_of_file (option_map (with_state state) o))) is

  pub unheld_row : (state : FileState) → holder_of state ≡ None → (row : Row) → opens (with_change (change.State state) row) ≡ false
  unheld_row state unheld row = by row.file
    where
      by : (file : Option FileRow) → is_client client (holder_of_file (option_map (with_state state) file)) ≡ false
      by None = refl
      by (Some file) = ap (is_client client) unheld

  pub replication_row : (replication : ℕ) (row : Row) → opens (with_change (change.Replication replication) row) ≡ opens row
  replication_row replication row = by row.file
    where
      by : (file : Option FileRow) → is_client client (holder_of_file (option_map (with_file_replication replication) file)) ≡ is_client client (holder_of_file file)
      by None = refl
      by (Some file) = refl

  -- what is made
  pub count_made : (owner : List ℕ) (mode : ℕ) (file : Option FileRow) (above : Row) (name : List ℕ) (names : List (List ℕ)) → count opens (new_rows above owner mode file (name ∷ names)) ≡ bit (is_client client (holder_of_file file))
  count_made owner mode file above name [] = count_head opens (new_row above owner mode file name) [] ∙ nothing (bit (is_client client (holder_of_file file)))
    where
      nothing : (n : ℕ) → n + 0 ≡ n
      nothing n = omega arith
  count_made owner mode file above name (next ∷ names) = count_made owner mode file (new_row above owner (mode_of_new mode (next ∷ names)) None name) next names

  pub count_new : (path : List (List ℕ)) (mode : ℕ) (file : Option FileRow) (owner : List ℕ) (rows : List Row) (above : Row) → IsNamespace rows → ancestor path rows ≡ Some above
      → count opens (with_new path mode file owner (Some above) rows) + count opens (rows_under path rows) ≡ bit (is_client client (holder_of_file file)) + count opens rows
  count_new path mode file owner rows above namespace found =
      let parts = beneath_parts path above.path (ancestor_above path rows above found) in
      let whole : path ≡ above.path ++ parts.name ∷ parts.names = sym (take-append-drop (length above.path) path) ∙ (ap (λ t. t ++ drop (length above.path) path) parts.front ∙ ap (λ t. above.path ++ t) parts.left) in
      let top : List (List ℕ) = above.path ++ parts.name ∷ [] in
      let block : List Row = new_rows above owner mode file (parts.name ∷ parts.names) in
      rw parts.left
      (total (count opens (rows_replaced top block rows)) (count opens (rows_under top rows)) (count opens (rows_under path rows)) (count opens block) (count opens rows) (bit (is_client client (holder_of_file file)))
      (count_replaced opens top block rows) (ap (count opens) (under_top path rows above parts.name parts.names namespace found whole)) (count_made owner mode file above parts.name parts.names))
    where
      total : (new top under block all one : ℕ) → new + top ≡ block + all → top ≡ under → block ≡ one → new + under ≡ one + all
      total new top under block all one h i j = omega (arith, h, i, j)

  -- what moves
  pub count_moved : (from to : List (List ℕ)) (rows : List Row) → IsNamespace rows → is_missing to rows ≡ true → count opens (with_rows_moved from to rows) ≡ count opens rows
  count_moved from to rows namespace missing =
      let block : List Row = map (moved_row from to) (rows_under from rows) in
      let free : rows_under to (without from rows) ≡ [] = none_under to (without from rows) (all_kept (λ row. not (is_prefix from row.path)) (λ row. not (is_prefix to row.path)) rows (missing_apart rows to namespace missing)) in
      total (count opens (with_rows_moved from to rows)) (count opens (rows_under to (without from rows))) (count opens block) (count opens (without from rows)) (count opens (rows_under from rows)) (count opens rows)
      (count_replaced opens to block (without from rows)) (ap (count opens) free) (count_map opens (moved_row from to) (λ row. refl) (rows_under from rows)) (count_without opens from rows)
    where
      total : (a b c d e f : ℕ) → a + b ≡ c + d → b ≡ 0 → c ≡ e → d + e ≡ f → a ≡ f
      total a b c d e f g h i j = omega (arith, g, h, i, j)

  -- what is taken from those who have it open
  module _ (f : Row → Row) (taken : Row → Bool) (each : (row : Row) → bit (opens (f row)) + bit (taken row && opens row) ≡ bit (opens row)) where
    pub count_taken : (rows : List Row) → count opens (map f rows) + count opens (filter taken rows) ≡ count opens rows
    count_taken [] = refl
    count_taken (row ∷ rows) =
        total (bit (opens (f row))) (bit (taken row && opens row)) (bit (opens row)) (count opens (map f rows)) (count opens (filter taken rows)) (count opens rows) _ _ _
        (count_head opens (f row) (map f rows)) (count_kept opens taken row rows) (count_head opens row rows) (each row) (count_taken rows)
      where
        total : (ha hb hp ca cb cp la lb lp : ℕ) → la ≡ ha + ca → lb ≡ hb + cb → lp ≡ hp + cp → ha + hb ≡ hp → ca + cb ≡ cp → la + lb ≡ lp
        total ha hb hp ca cb cp la lb lp a b c h r = omega (arith, a, b, c, h, r)

  -- how often the client is among the holders of rows
  abbrev pub occurs : List (List ℕ) → ℕ
  occurs clients = length (filter (same client) clients)

  pub count_holders : (rows : List Row) → length (filter (same client) (holders rows)) ≡ count opens rows
  count_holders [] = refl
  count_holders (row ∷ rows) = by (holder_of_file row.file) (count_holders rows)
    where
      more : (b : Bool) (who : List ℕ) → occurs (holders rows) ≡ count opens rows → length (cond b (who ∷ filter (same client) (holders rows)) (filter (same client) (holders rows))) ≡ length (cond b (row ∷ filter opens rows) (filter opens rows))
      more true who e = omega (arith, e)
      more false who e = e

      by : (holder : Option (List ℕ)) → occurs (holders rows) ≡ count opens rows → length (filter (same client) (option_to_list holder ++ holders rows)) ≡ length (cond (is_client client holder) (row ∷ filter opens rows) (filter opens rows))
      by None e = e
      by (Some who) e = more (same client who) who e

  -- a client has some file open where the number of its open files isn't 0
  pub any_counted : (rows : List Row) → has_open_file client rows ≡ nat_lt 0 (count opens rows)
  any_counted [] = refl
  any_counted (row ∷ rows) = by (opens row) (any_counted rows)
    where
      by : (b : Bool) → has_open_file client rows ≡ nat_lt 0 (count opens rows) → (b || has_open_file client rows) ≡ nat_lt 0 (length (cond b (row ∷ filter opens rows) (filter opens rows)))
      by true e = sym (lt-ltb 0 _ (omega arith))
      by false e = e
